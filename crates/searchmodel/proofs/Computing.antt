-- What the computed statements of this crate compute with: the definitions of specs/, and those of the crates below it. Assumes nothing.
use Prim.Native.Nat.{ℕ}
use Rattle.method.proofs.Computing as Method
use Rattle.searchmodel.specs.Bisection.{after_tests, tests_made, how_many}

unfoldable pub all : ℕ
unfolding
    Method.all
    after_tests tests_made how_many
all = 0
