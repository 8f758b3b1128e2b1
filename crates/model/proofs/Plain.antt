-- Each promise of specs/Promises.antt used once in plain numbers, at its largest and its smallest. Nothing else rests on this: a promise that
-- said less would not give it. Assumes nothing.
use Prim.Native.Nat.{ℕ, ◌+◌, ◌≤◌, ◌<◌}
use mathlib.Core.Path.{◌≡◌}
use mathlib.Core.List.{List, []}
use native.Mathlib.Omega.{arith}
use lib.ListN.{length, get_or, take, drop}
use Rattle.std.specs.Prelude.{Some}
use Rattle.refusal.specs.Numbered.{number_of}
use Rattle.refusal.specs.declared.Refusal.{Refusal}
use Rattle.refusal.specs.declared.Refusal.TheVariants.{EndsEarly, People}
use Rattle.model.specs.Layout.{Keeps, case_of}
use Rattle.model.specs.Refusals.{failing, checks, refusal, rates_part, days_at}
use Rattle.model.specs.Promises.{FilesAreAcceptedExactly, NoFileHoldsTwoCases, RefusalCall, EveryRefusalCall, PartCall, EveryPartCall}

-- a file is accepted exactly when it keeps the layout and limits: nothing is asked but that it is a list of bytes
module _ (p : FilesAreAcceptedExactly) (file : List ℕ) where
  accepted-keeps : ((i : ℕ) → get_or file i 0 < 256) → refusal file ≡ 0 → Keeps file
  accepted-keeps b h = p.accepted_keeps file (record { small = b }) h

  keeps-accepted : (x : Keeps file) → (refusal file ≡ 0) × (case_of file ≡ x.held)
  keeps-accepted x = (p.keeps_accepted file x, p.case_held file x)

  accepted-ufr : refusal file ≡ 0 → (case_of file).ufr ≤ 5000
  accepted-ufr h = (p.case_within file h).ufr

one-case : NoFileHoldsTwoCases → (file : List ℕ) (x y : Keeps file) → x.held ≡ y.held
one-case p file x y = p.same file x y

-- the number of the first refusal, 1 to 12
module _ (file : List ℕ) (c : RefusalCall file) where
  of-bytes : (i : ℕ) → get_or file i 0 ≤ 255
  of-bytes i = let b = c.bytes.small i in omega (arith, b)

  each-refusal : (r : Refusal) → failing (checks file) ≡ Some r → refusal file ≡ number_of r
  each-refusal = c.refused

  one-and-twelve : (failing (checks file) ≡ Some EndsEarly → refusal file ≡ 1) × (failing (checks file) ≡ Some People → refusal file ≡ 12)
  one-and-twelve = (c.refused EndsEarly, c.refused People)

  nothing-lent : refusal file < 13
  nothing-lent = omega (arith, c.most)

  exactly : (refusal file ≡ 0 → Keeps file) × (Keeps file → refusal file ≡ 0)
  exactly = (c.accepted_keeps, c.keeps_accepted)

-- the bytes of the rates, of one day and of seventy
module _ (file : List ℕ) (c : PartCall file) where
  of-bytes-too : (i : ℕ) → get_or file i 0 ≤ 255
  of-bytes-too i = let b = c.bytes.small i in omega (arith, b)

  empty-when-refused : (r : Refusal) → failing (checks file) ≡ Some r → rates_part file ≡ []
  empty-when-refused = c.refused

  empty-only-then : refusal file ≡ 0 → rates_part file ≡ [] → ⊥
  empty-only-then h none = c.empty none h

  two-bytes-each : refusal file ≡ 0 → (case_of file).rate_bytes ≡ 2
      → (length (case_of file).days ≡ 1 → length (rates_part file) ≡ 120) × (length (case_of file).days ≡ 70 → length (rates_part file) ≡ 8400)
  two-bytes-each h w = let n = c.two_bytes h w in (λ e. omega (arith, n, e), λ e. omega (arith, n, e))

  four-bytes-each : refusal file ≡ 0 → (case_of file).rate_bytes ≡ 4
      → (length (case_of file).days ≡ 1 → length (rates_part file) ≡ 240) × (length (case_of file).days ≡ 70 → length (rates_part file) ≡ 16800)
  four-bytes-each h w = let n = c.four_bytes h w in (λ e. omega (arith, n, e), λ e. omega (arith, n, e))

  in-the-file : refusal file ≡ 0
      → (rates_part file ≡ take (length (rates_part file)) (drop (days_at file + 1) file)) × (days_at file + length (rates_part file) < length file)
  in-the-file h = let i = c.inside h in (c.place h, omega (arith, i))

-- each of these calls, of every list of bytes
every-refusal-call : EveryRefusalCall → (file : List ℕ) → ((i : ℕ) → get_or file i 0 < 256) → RefusalCall file
every-refusal-call p file b = p.call file (record { small = b })

every-part-call : EveryPartCall → (file : List ℕ) → ((i : ℕ) → get_or file i 0 < 256) → PartCall file
every-part-call p file b = p.call file (record { small = b })
