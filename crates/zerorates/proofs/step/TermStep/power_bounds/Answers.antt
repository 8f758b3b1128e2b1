-- `zerorates::step::TermStep::power_bounds` meets its contract. Assumes nothing.
use Rattle.std.proofs.Common.{◌≡◌, ◌/◌, arith}
use Rattle.zerorates.proofs.Powers.{no-year, of-half, bits_most, square-within, year-within, even-encloses, odd-encloses}
use Rattle.zerorates.proofs.step.TermStep.power_bounds.Goals as goal

pub loop-k-init : goal.loop-k-init
loop-k-init c =
    let none : c.args.self.term / 128 ≡ 0 = omega (arith, c.args.self.within.term) in
    rw (c.exactly-power.ensures, none) (no-year _)

pub product-power-requires : goal.product-power-requires
product-power-requires c =
    square-within (bits_most _ _ c.args.self.within.term) (of-half _ _ c.loop-k-test.true c.loop-k.invariant) c.one_year-year.ensures

pub product-power-requires-then-self-k-eq1 : goal.product-power-requires-then-self-k-eq1
product-power-requires-then-self-k-eq1 c =
    year-within (bits_most _ _ c.args.self.within.term) (of-half _ _ c.loop-k-test.true c.loop-k.invariant) c.one_year-year.ensures
    c.product-power.ensures c.if-self-k-eq1.true

pub loop-k-preserved-then-self-k-eq1 : goal.loop-k-preserved-then-self-k-eq1
loop-k-preserved-then-self-k-eq1 c =
    odd-encloses (bits_most _ _ c.args.self.within.term) (of-half _ _ c.loop-k-test.true c.loop-k.invariant) c.one_year-year.ensures
    c.product-power.ensures c.if-self-k-eq1.true c.product-power-then-self-k-eq1.ensures

pub loop-k-preserved : goal.loop-k-preserved
loop-k-preserved c =
    even-encloses (bits_most _ _ c.args.self.within.term) (of-half _ _ c.loop-k-test.true c.loop-k.invariant) c.one_year-year.ensures
    c.product-power.ensures (omega (arith, c.if-self-k-eq1.false))
