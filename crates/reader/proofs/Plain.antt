-- What reading a file gives, used in plain terms. Nothing else rests on this: a definition that said less would not give it.
-- Assumes nothing.
use Prim.Native.Nat.{ℕ, ◌+◌}
use mathlib.Core.Path.{◌≡◌, refl}
use mathlib.Core.Bool.{true, false}
use mathlib.Core.List.{List, [], ◌∷◌}
use lib.ListN.{get_or}
use Prim.Native.Nat.{◌<◌}
use Rattle.std.specs.Prelude.{Some, None, Ok, Err, Result}
use Rattle.std.specs.Borrow.{Bor}
use Rattle.refusal.specs.declared.Refusal.{Refusal}
use Rattle.refusal.specs.declared.Refusal.TheVariants.{Rate}
use Rattle.model.specs.Layout.{Keeps, case_of}
use Rattle.model.specs.Refusals.{failing, first_of, checks, rates_part, days_at}
use Rattle.heldcase.specs.Held.{held}
use Rattle.reader.specs.Answers.{rates_from, behind, RatesPart, Read, ReadExactly, IsFirstOfAll}
use Rattle.reader.specs.declared.file.Reading.{Reading}

-- after the count of days, and nowhere in a file that is refused; 7 bytes after the byte 5 of an allocation
rates-at : (file : List ℕ) → (rates_from None file ≡ days_at file + 1) × (rates_from (Some Rate) file ≡ 0)
rates-at file = (refl, refl)

behind-seven : behind (3, 5) 7 ≡ (3, 12)
behind-seven = refl

part : (file rates : Bor (List ℕ)) → RatesPart file rates
    → (rates.now ≡ rates_part file.now) × (rates.ref_ptr ≡ behind file.ref_ptr (rates_from (failing (checks file.now)) file.now))
part file rates h = (h.bytes, h.place)

-- an answer is the first check that fails, or the case with its rates
refused : (file : Bor (List ℕ)) (r : Refusal) → Read file (Err r) → Some r ≡ failing (checks file.now)
refused file r h = h.refusal

read : (file : Bor (List ℕ)) (x : Reading) → Read file (Ok x)
    → (None ≡ failing (checks file.now)) × (x.«case» ≡ held (case_of file.now)) × RatesPart file x.rates × (x.rates_at ≡ days_at file.now + 1)
read file x h = (h.refusal, h.given.0, h.given.1, h.there)

-- and told of a list of bytes
module _ (file : List ℕ) where
  bytes : (r : Result Reading Refusal) → ReadExactly file r → (i : ℕ) → get_or file i 0 < 256
  bytes r h = h.bytes.small

  first : (r : Refusal) → ReadExactly file (Err r) → Some r ≡ failing (checks file)
  first r h = h.refusal

  kept : (r : Refusal) → ReadExactly file (Err r) → Keeps file → ⊥
  kept r h = h.keeps_accepted

  accepted : (x : Reading) → ReadExactly file (Ok x) → (k : Keeps file) × (x.«case» ≡ held k.held)
  accepted x h = h.accepted_keeps

-- each check in its turn
in-turn : IsFirstOfAll → (first_of [] ≡ 0) × (first_of ((true, Rate) ∷ []) ≡ first_of []) × (first_of ((false, Rate) ∷ []) ≡ 5)
in-turn p = (p.none, p.next (true, Rate) [], p.next (false, Rate) [])
