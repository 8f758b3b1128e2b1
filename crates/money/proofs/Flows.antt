-- The worth of flows, one flow more: what the loop over them adds.
-- Assumes nothing.
use Prim.Native.Nat.{ℕ, suc, ◌+◌, ◌*◌, ◌-◌, ◌^◌, ◌≤◌, ◌<◌}
use mathlib.Core.Path.{◌≡◌, ap, ◌∙◌}
use mathlib.Core.List.{List, [], ◌∷◌, ◌++◌}
use native.Mathlib.Omega.{arith}
use native.Mathlib.Nat.{mul-le-mul, mul_comm, le_trans, lt_of_le_of_lt}
use native.Mathlib.Numerals.{add-one}
use lib.Dec.{lit≤, lit<}
use lib.ListN.{length, get_or, take, length-append}
use lib.Seq.{take-suc, length-take-le}
use Rattle.arith.specs.inner.Range.{InRange}
use Rattle.arith.specs.Rounding.{End, low, high, divide}
use Rattle.arith.proofs.Rounding.{divide-le}
use Rattle.method.specs.Rounded.{worth}
use Rattle.arith.specs.Brackets.{bracket, end_of}
use Rattle.arith.specs.declared.bracket.Bracket.{Bracket}
use Rattle.arith.specs.inner.Range.{BothIn, UpTo}
use Rattle.theory.proofs.general.ByEnds.{by-ends, end_is}
use Rattle.curves.specs.inner.ByTerm.{factor_at}
use Rattle.money.specs.inner.Ranges.{FlowsFit, FactorsFit}
use Rattle.money.proofs.Products.{up_to}

worth-last : (e : End) (f : ℕ → ℕ) (t : ℕ) (xs : List ℕ) (x : ℕ) → worth e f t (xs ++ (x ∷ [])) ≡ worth e f t xs + divide e (x * f (t + length xs)) (10 ^ 10)
unfolding worth
worth-last e f t [] x = let q : t + 0 ≡ t = omega arith in rw q (omega arith)
worth-last e f t (y ∷ xs) x =
    let q : suc t + length xs ≡ t + suc (length xs) = omega arith in
    rw (worth-last e f (suc t) xs x, q) (omega arith)

abbrev none : Bracket
none = record { lower = 0; upper = 0 }

-- the worth of the first i flows
abbrev pub worth_to : List ℕ → List Bracket → ℕ → Bracket
worth_to flows factors i = bracket (λ e. worth e (factor_at factors e) 1 (take i flows))

pub no-worth : (flows : List ℕ) (factors : List Bracket) (r : Bracket) → r ≡ bracket (λ e. 0) → r ≡ worth_to flows factors 0
unfolding worth
no-worth flows factors r p = p

pub none-most : (r : Bracket) → r ≡ bracket (λ e. 0) → UpTo 0 r
none-most r p = up_to r (λ e. 0) p (λ e. omega arith)

-- one flow: its product is in range, and it is worth at most 340,000,000 euros
flow-range : (f x : ℕ) → f ≤ 34 * 10 ^ 11 → x ≤ 100000000 → InRange f x 10000000000
flow-range f x h k = record {
  left = omega arith;
  right = omega arith;
  some = lit< tt;
  most = lit≤ tt;
  fits = lt_of_le_of_lt (mul-le-mul h k) (lit< tt);
}

-- flow i, at term i + 1, and the worth with it
module _ (flows : List ℕ) (factors : List Bracket) (i : ℕ) (x : ℕ) (f : Bracket) (fits : FlowsFit flows) (within : FactorsFit factors (length flows))
    (h : i < length flows) (flow : x ≡ get_or flows i 0) (factor : f ≡ get_or factors i none) where
  factor-is : (e : End) → end_of f e ≡ factor_at factors e (suc i)
  factor-is e = let q : suc i - 1 ≡ i = omega arith in rw (factor, q)

  factor-most : (e : End) → end_of f e ≤ 34 * 10 ^ 11
  factor-most e = rw (factor-is e) (within.factor e (suc i) (omega arith) h)

  flow-few : x ≤ 100000000
  flow-few = rw flow (fits.flow i h)

  pub in-range : BothIn InRange f x 10000000000
  in-range = record { lower = range (factor-most low); upper = range (factor-most high) }
    where
      range : {n : ℕ} → n ≤ 34 * 10 ^ 11 → InRange n x 10000000000
      range {n} k = flow-range n x k flow-few

  module _ (v : Bracket) (is : v ≡ bracket (λ e. divide e (end_of f e * x) 10000000000)) where
    flow-is : (e : End) → end_of v e ≡ divide e (get_or flows i 0 * factor_at factors e (suc i)) (10 ^ 10)
    flow-is e =
        end_is v (λ e. divide e (end_of f e * x) 10000000000) is e
        ∙ ap (λ (n : ℕ). divide e n 10000000000) (rw (factor-is e, flow) (mul_comm (factor_at factors e (suc i)) (get_or flows i 0)))

    pub flow-most : UpTo (34 * 10 ^ 9) v
    flow-most =
        up_to v (λ e. divide e (end_of f e * x) 10000000000) is
        (λ e. divide-le e (end_of f e * x) 10000000000 (34 * 10 ^ 9) (lit< tt) (le_trans (mul-le-mul (factor-most e) flow-few) (lit≤ tt)))

    pub worth-next : (t r : Bracket) → t ≡ worth_to flows factors i → r ≡ bracket (λ e. end_of t e + end_of v e) → r ≡ worth_to flows factors (i + 1)
    worth-next t r p q =
        let n : length (take i flows) ≡ i = length-take-le i flows (omega arith) in
        let m : 1 + i ≡ suc i = omega arith in
        q ∙ by-ends (λ e. end_of t e + end_of v e) (λ e. worth e (factor_at factors e) 1 (take (i + 1) flows))
        (λ e. rw (
          add-one,
          take-suc flows i 0 h,
          worth-last e (factor_at factors e) 1 (take i flows) (get_or flows i 0),
          n,
          m,
          end_is t (λ e. worth e (factor_at factors e) 1 (take i flows)) p e,
          flow-is e,
        ))

-- the loop over flows: one turn more, and after the last
pub one-more : {A : Type 0} (flows : List ℕ) (factors : List Bracket) (done : List A) (x : A) (r : Bracket) {t v : Bracket} → r ≡ worth_to flows factors (length done + 1)
    → UpTo (34 * 10 ^ 9 * length done) t → UpTo (34 * 10 ^ 9) v → r ≡ bracket (λ e. end_of t e + end_of v e)
    → record {
      total : r ≡ worth_to flows factors (length (done ++ (x ∷ [])));
      most : UpTo (34 * 10 ^ 9 * length (done ++ (x ∷ []))) r;
    }
one-more flows factors done x r p k l q =
    let n : length (done ++ (x ∷ [])) ≡ length done + 1 = length-append done (x ∷ []) in
    rw n (record { total = p; most = rw q (record { lower = omega (arith, k, l); upper = omega (arith, k, l) }) })
