-- The file with a UFR in its field is a file of the same case with that UFR: the map gets bit 0, the UFR follows it, and the other
-- fields follow as they did. So where the UFR is within its limits and the file is accepted, that file is accepted too, and its case is
-- the file's with the new UFR. Assumes nothing.
use Prim.Native.Nat.{ℕ, ◌+◌, ◌≤◌}
use mathlib.Core.Path.{◌≡◌, refl, ap, ap₂, sym, ◌∙◌, subst}
use mathlib.Core.Bool.{Bool, true, false, cond}
use mathlib.Core.List.{List, ◌++◌, append_assoc}
use native.Mathlib.Omega.{arith}
use lib.Dec.{T}
use lib.ListN.{drop, length-append}
use lib.Seq.{drop_at}
use Rattle.model.specs.Numbers.{bytes_of, Bytes}
use Rattle.model.specs.Case.{FileCase, known_form, with_ufr}
use Rattle.model.specs.Layout.{shocks_in_order, shocks, people, Present, map_of, stands, file_map, days_if, file_of, case_of, Keeps}
use Rattle.model.specs.Refusals.{refusal, ufr_end}
use Rattle.monthsmodel.specs.Months.{with_ufr_field}
use Rattle.model.specs.inner.Positions.{days_field, pension_field, bonds_field, amounts_field, equity_field}
use Rattle.theory.proofs.acceptance.Acceptance.{accepted-keeps, keeps-accepted}
use Rattle.theory.proofs.acceptance.Bitmap.{announced}
use Rattle.theory.proofs.acceptance.Encoding.{length-bytes, number_read}
use Rattle.theory.proofs.curve.Changed.{within-ufr}

-- the same optional fields, and the UFR's
abbrev with_field : Present → Present
with_field p = record { ufr = true; bonds = p.bonds; amounts = p.amounts; equity = p.equity }

-- the bytes after the UFR
abbrev later_bytes : Present → FileCase → List ℕ
later_bytes p k =
    (days_field 2 k.rate_bytes).bytes (days_if 2 k) ++ (pension_field.bytes k.pension ++ ((bonds_field p).bytes k.bonds
    ++ ((amounts_field p).bytes k.amounts ++ (shocks.bytes (shocks_in_order k.shocks) ++ people.bytes k.people))))

abbrev last_bytes : Present → FileCase → List ℕ
last_bytes p k = (days_field 4 k.rate_bytes).bytes (days_if 4 k) ++ (equity_field p).bytes k.shocks.equity_correlation

module _ (p : Present) (k : FileCase) (known : known_form k.rate_bytes ≡ true) where
  abbrev file : List ℕ
  file = file_of p k

  map_read : file_map file ≡ map_of k.rate_bytes p
  unfolding file_map file_of
  map_read =
      let (right, most, same, form) = announced k.rate_bytes p known in
      number_read file 0 2 (map_of k.rate_bytes p) _ (omega arith) refl

  bit-read : stands 0 (file_map file) ≡ p.ufr
  bit-read =
      let (right, most, same, form) = announced k.rate_bytes p known in
      ap (stands 0) map_read ∙ ap (λ (q : Present). q.ufr) same

  -- with bit 0 in the map
  bit-set : cond p.ufr (map_of k.rate_bytes p) (map_of k.rate_bytes p + 1) ≡ map_of k.rate_bytes (with_field p)
  bit-set = go p.ufr
    where
      go : (u : Bool)
          → (let q : Present = record { ufr = u; bonds = p.bonds; amounts = p.amounts; equity = p.equity } in
          cond u (map_of k.rate_bytes q) (map_of k.rate_bytes q + 1) ≡ map_of k.rate_bytes (with_field q))
      go true = refl
      go false = omega arith

  -- the rest of the file
  rest_read : drop (cond p.ufr 4 2) file ≡ later_bytes p k ++ last_bytes p k
  unfolding file_of
  rest_read = go p.ufr p.bonds p.amounts p.equity
    where
      go : (u b a c : Bool)
          → (let q : Present = record { ufr = u; bonds = b; amounts = a; equity = c } in
          drop (cond u 4 2) (file_of q k) ≡ later_bytes q k ++ last_bytes q k)
      go true b a c =
          let q : Present = record { ufr = true; bonds = b; amounts = a; equity = c } in
          let map = bytes_of 2 (map_of k.rate_bytes q) in
          let ufr = bytes_of 2 k.ufr in
          let rest = later_bytes q k ++ last_bytes q k in
          ap (λ (l : List ℕ). drop 4 (map ++ l)) (append_assoc ufr (later_bytes q k) (last_bytes q k))
          ∙ ap (drop 4) (sym (append_assoc map ufr rest))
          ∙ drop_at (map ++ ufr) rest 4
          (omega (arith, length-append map ufr, length-bytes 2 (map_of k.rate_bytes q), length-bytes 2 k.ufr))
      go false b a c =
          let q : Present = record { ufr = false; bonds = b; amounts = a; equity = c } in
          drop_at (bytes_of 2 (map_of k.rate_bytes q)) (later_bytes q k ++ last_bytes q k) 2 (length-bytes 2 (map_of k.rate_bytes q))

  field-written : (ufr : ℕ) → with_ufr_field ufr (file_of p k) ≡ file_of (with_field p) (with_ufr ufr k)
  unfolding with_ufr_field ufr_end file_of
  field-written ufr =
      let map = ap₂ (λ (b : Bool) (m : ℕ). cond b m (m + 1)) bit-read map_read ∙ bit-set in
      let rest = ap (λ (b : Bool). drop (cond b 4 2) file) bit-read ∙ rest_read in
      ap₂ (λ (m : ℕ) (l : List ℕ). bytes_of 2 m ++ bytes_of 2 ufr ++ l) map rest ∙ written
    where
      written : bytes_of 2 (map_of k.rate_bytes (with_field p)) ++ bytes_of 2 ufr ++ (later_bytes p k ++ last_bytes p k)
          ≡ file_of (with_field p) (with_ufr ufr k)
      written =
          append_assoc (bytes_of 2 (map_of k.rate_bytes (with_field p))) (bytes_of 2 ufr) (later_bytes p k ++ last_bytes p k)
          ∙ ap (λ (l : List ℕ). bytes_of 2 (map_of k.rate_bytes (with_field p)) ++ l)
          (sym (append_assoc (bytes_of 2 ufr) (later_bytes p k) (last_bytes p k)))

module _ (given : List ℕ) (b : Bytes given) (accepted : refusal given ≡ 0) (ufr : ℕ) (most : ufr ≤ 5000) where
  field-keeps : Keeps given → Keeps (with_ufr_field ufr given)
  field-keeps x = record {
    present = with_field x.present;
    held = with_ufr ufr x.held;
    within = within-ufr x.held x.within ufr most;
    agrees = record {
      ufr_absent = λ e. absurd (subst T e tt);
      bonds_absent = x.agrees.bonds_absent;
      bonds_there = x.agrees.bonds_there;
      amounts_absent = x.agrees.amounts_absent;
      equity_absent = x.agrees.equity_absent;
    };
    bytes = ap (with_ufr_field ufr) x.bytes ∙ field-written x.present x.held x.within.form ufr;
  }

  -- the file with the UFR in its field is accepted, and its case is the file's with that UFR
  pub field-read : (refusal (with_ufr_field ufr given) ≡ 0) × (case_of (with_ufr_field ufr given) ≡ with_ufr ufr (case_of given))
  unfolding field-keeps
  field-read =
      let (x, is) = accepted-keeps given b accepted in
      let (none, read) = keeps-accepted (with_ufr_field ufr given) (field-keeps x) in
      (none, read ∙ ap (with_ufr ufr) is)
