-- The correlation between the equity classes in what is saved: whether its field is needed, the length of the shortest file and what is read
-- back from it, and its place in the order of checks, as computed statements about the definitions.
-- tests/writers wrote this file, from the reference in Python, which was written without the engine's code (tests/reference): change
-- that, not this. Assumes nothing.
use Prim.Native.Nat.{ℕ}
use mathlib.Core.Path.{◌≡◌, refl}
use mathlib.Core.Bool.{true, false}
use mathlib.Core.List.{List, [], ◌∷◌, ◌++◌, map}
use lib.ListN.{length, replicate}
use lib.IntN.{pos}
use Rattle.model.specs.Case.{FileCase}
use Rattle.model.specs.Layout.{map_of, case_of}
use Rattle.savingmodel.specs.Saving.{given, needed, case_refusal, shortest}
use Rattle.savingmodel.proofs.Computing.{all}
use Rattle.savingmodel.proofs.SavedCases.{amounts_of, shocks_of, fields_of, no_amounts, no_shocks}

-- A fund with rates of w bytes, whose equity classes have a correlation of c thousandths.
abbrev pub classes_case : ℕ → ℕ → FileCase
classes_case w c = given (fields_of w 4200 (amounts_of 7 11 13 17 0 0 0 0) (shocks_of 0 0 301 453 207 151 0 0 0 0 0 0 c) 1 0 0) (replicate 60 (pos 0)) (7 ∷ []) []

equity-needed : ((needed (classes_case 2 0)).equity ≡ true)
    × (map_of 2 (needed (classes_case 2 0)) ≡ 0x176)
    × (map_of 4 (needed (classes_case 4 0)) ≡ 0x1f4)
    × ((needed (classes_case 2 1)).equity ≡ true)
    × (map_of 2 (needed (classes_case 2 1)) ≡ 0x176)
    × (map_of 4 (needed (classes_case 4 1)) ≡ 0x1f4)
    × ((needed (classes_case 2 999)).equity ≡ true)
    × (map_of 2 (needed (classes_case 2 999)) ≡ 0x176)
    × (map_of 4 (needed (classes_case 4 999)) ≡ 0x1f4)
    × ((needed (classes_case 2 1000)).equity ≡ false)
    × (map_of 2 (needed (classes_case 2 1000)) ≡ 0x76)
    × (map_of 4 (needed (classes_case 4 1000)) ≡ 0xf4)
unfolding all
equity-needed = (refl, refl, refl, refl, refl, refl, refl, refl, refl, refl, refl, refl)

equity-saved : (map case_refusal ((classes_case 2 0) ∷ (classes_case 2 1) ∷ (classes_case 2 999) ∷ (classes_case 2 1000) ∷ (classes_case 2 1001) ∷ []) ≡ 0 ∷ 0 ∷ 0 ∷ 0 ∷ 11 ∷ [])
    × (length (shortest (classes_case 2 0)) ≡ 226)
    × (case_of (shortest (classes_case 2 0)) ≡ (classes_case 2 0))
    × (length (shortest (classes_case 2 1)) ≡ 226)
    × (case_of (shortest (classes_case 2 1)) ≡ (classes_case 2 1))
    × (length (shortest (classes_case 2 999)) ≡ 226)
    × (case_of (shortest (classes_case 2 999)) ≡ (classes_case 2 999))
    × (length (shortest (classes_case 2 1000)) ≡ 224)
    × (case_of (shortest (classes_case 2 1000)) ≡ (classes_case 2 1000))
unfolding all
equity-saved = (refl, refl, refl, refl, refl, refl, refl, refl, refl)

-- Its place in the order of a case that is handed in.
abbrev pub handed_in : List FileCase
handed_in =
    given (fields_of 2 4200 no_amounts (shocks_of 0 0 0 0 0 0 0 0 0 0 0 0 1001) 0 0 0) (replicate 60 (pos 0)) (7 ∷ []) []  -- 12 before 11 of the equity correlation
    ∷ given (fields_of 2 4200 no_amounts (shocks_of 0 0 0 0 0 0 0 0 0 0 0 0 1001) 1 0 0) ((pos 0 ∷ []) ++ replicate 59 (pos 6001)) (7 ∷ []) []  -- 11 of the equity correlation before 6
    ∷ given (fields_of 4 4200 no_amounts (shocks_of 0 0 0 0 0 0 0 0 0 0 0 0 1001) 1 0 0) (replicate 60 (pos 1000001)) (7 ∷ []) []  -- 5 before 11 of the equity correlation
    ∷ given (fields_of 4 4200 no_amounts (shocks_of 0 0 0 0 0 0 0 0 0 0 0 0 1001) 1 0 0) ((pos 0 ∷ []) ++ replicate 59 (pos 600001)) (7 ∷ []) []  -- 11 of the equity correlation before 6
    ∷ given (fields_of 2 4200 no_amounts no_shocks 1 0 0) ((pos 1 ∷ []) ++ replicate 59 (pos 6001)) (7 ∷ []) []  -- 6 alone
    ∷ []

equity-order : map case_refusal handed_in ≡ 12 ∷ 11 ∷ 5 ∷ 11 ∷ 6 ∷ []
unfolding all
equity-order = refl
