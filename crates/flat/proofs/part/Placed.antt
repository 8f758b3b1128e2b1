-- The part of a file that holds the rates, by its place. Assumes nothing.
use mathlib.Core.Path.{◌≡◌, refl, ap, ◌∙◌}
use mathlib.Core.List.{List, [], ◌∷◌}
use Prim.Native.Nat.{ℕ, zero, suc, ◌+◌, ◌*◌}
use lib.ListN.{length, take, drop}
use Rattle.model.specs.Refusals.{failing, checks, rates_part_after, rates_part, days_at, day_count}
use Rattle.std.specs.Prelude.{Option, None, Some}
use Rattle.model.specs.inner.Positions.{rate_bytes}
use Rattle.refusal.specs.declared.Refusal.{Refusal}
use Rattle.reader.specs.Answers.{rates_from}
use Rattle.flat.specs.Part.{host_part}
use Rattle.flat.specs.declared.part.HostPart.{HostPart}

taken-again : (n : ℕ) (xs : List ℕ) → take (length (take n xs)) xs ≡ take n xs
taken-again zero xs = refl
taken-again (suc n) [] = refl
taken-again (suc n) (x ∷ xs) = ap {B = List ℕ} (λ r. x ∷ r) (taken-again n xs)

placed : (o : Option Refusal) (file : List ℕ) → take (length (rates_part_after o file)) (drop (rates_from o file) file) ≡ rates_part_after o file
placed None file = taken-again (rate_bytes file * 60 * day_count file) (drop (days_at file + 1) file)
placed (Some r) file = refl

-- the bytes at the place are the part
pub part_placed : (file : List ℕ) → take (host_part file).length (drop (host_part file).offset file) ≡ rates_part file
unfolding rates_part
part_placed file = placed (failing (checks file)) file

-- the part by the refusal
part_after : Option Refusal → List ℕ → HostPart
part_after o file = record { offset = rates_from o file; length = length (rates_part_after o file) }

-- an accepted file has its part after the count of days
pub some-part : (file part : List ℕ) (at : ℕ) → None ≡ failing (checks file) → part ≡ rates_part file → at ≡ days_at file + 1
    → record { offset = at; length = length part } ≡ host_part file
some-part file part at z p a =
    (λ i. record { offset = a i; length = length (p i) })
    ∙ ap (λ (o : Option Refusal). record { offset = rates_from o file; length = length (rates_part file) }) z

-- a refused file has none
pub no-part : (file : List ℕ) (e : Refusal) → Some e ≡ failing (checks file) → record { offset = 0; length = 0 } ≡ host_part file
unfolding rates_part part_after
no-part file e h = ap (λ (o : Option Refusal). part_after o file) h
