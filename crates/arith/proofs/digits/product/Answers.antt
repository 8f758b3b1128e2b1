-- `arith::digits::product` meets its contract. Assumes nothing.
use Rattle.std.proofs.Common.{◌≡◌, ℕ, ◌+◌, ◌*◌, ◌/◌, ◌%◌, ◌^◌, ◌∙◌, ap, arith}
use native.Mathlib.Nat.{div-add-mod'}
use Rattle.arith.proofs.digits.product.Goals as goal

-- both words of p times z
both-words : (p z : ℕ) → p % 2 ^ 64 * z + 2 ^ 64 * (p / 2 ^ 64 * z) ≡ p * z
both-words p z = omega (arith, ap (λ (n : ℕ). n * z) (div-add-mod' p (2 ^ 64)))

pub returns : goal.returns
returns c = c.carried.ensures ∙ both-words (c.args.x * c.args.y) c.args.z
