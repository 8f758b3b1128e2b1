-- The whole file: the fields that its map announces, and the case that they hold.
use Rattle.std.proofs.Common.{◌≡◌, ◌∙◌, ℕ, ◌+◌, ◌*◌, Bool, true, false, not, cond, List, [], ◌∷◌, length, get_or, take, drop, leb, ap, refl, sym, subst, Option, Some, None, Ok, Err, ℤ}
use Rattle.std.specs.Prelude.{MatchOption}
use Rattle.std.specs.Option.{option_or}
use Rattle.std.specs.Borrow.{Bor}
use mathlib.Core.Path.{ap₂}
use lib.Dec.{eqb}
use Rattle.model.specs.Constants.{default_ufr, default_equity_correlation}
use Rattle.model.specs.Numbers.{every, number}
use Rattle.model.specs.Case.{per_step}
use Rattle.model.specs.Fields.{number_of, Field, field, optional}
use Rattle.model.specs.Layout.{Parts, no_amounts, shocks_from, case_of, case_from, day, days, fields_of, file_map, rate_bytes_in, stands}
use Rattle.model.specs.Refusals.{failing, checks, day_count, days_at, forwards_right, rates_part, ufr_end}
use Rattle.model.specs.declared.case.Amounts.{Amounts}
use Rattle.model.specs.declared.case.Shocks.{Shocks}
use Rattle.model.specs.declared.case.People.{People}
use Rattle.theory.proofs.acceptance.Runs.{values_length}
use Rattle.heldcase.specs.Held.{held}
use Rattle.refusal.specs.declared.Refusal.{Refusal}
use Rattle.refusal.specs.declared.Refusal.TheVariants.{BytesFollow, Forward, Ufr}
use Rattle.fields.specs.IsDays.{IsDays}
use Rattle.fields.specs.MapField.{map_field}
use Rattle.fields.specs.Reading.{IfThere, IsPart, Moved, Reads}
use Rattle.fields.specs.Sums.{forward_right, raised}
use Rattle.fields.specs.declared.cursor.Cursor.{Cursor}
use Rattle.fields.specs.declared.map.Map.{Map}
use Rattle.fields.specs.declared.sums.FileDays.{FileDays}
use Rattle.fields.proofs.DaySums.{forwards-are, sums-held}
use Rattle.fields.proofs.Laid.{announced-are, first_laid, laid, read-or-absent}
use Rattle.reader.specs.Answers.{RatesPart, Read}
use Rattle.reader.proofs.InOrder.{map-refused, field-refused, end-refused, last-is}

-- ---- the days, of two bytes or else of four

abbrev DaysRead : Bool → ℕ → Bor (List ℕ) → ℕ → Option FileDays → Type 0
DaysRead there w file at v =
    let x = cond there ((days w).value file.now at) [] in
    IfThere there (MatchOption v ⊥ (λ d. IsDays w file at d x)) ((v ≡ None) × (x ≡ []))

-- the days of a file with four-byte days, or without, where the two fields start at i and j
abbrev pub days_in : Bool → List ℕ → ℕ → ℕ → List (List ℤ)
days_in t file i j = cond (eqb (cond t 4 2) 4) ((optional t [] (days 4)).value file j) ((optional (not t) [] (days 2)).value file i)

pub record Told (t : Bool) (file : Bor (List ℕ)) (i j : ℕ) (v : FileDays) : Type 0 where
  pub days : IsDays (cond t 4 2) file (cond t j i) v (days_in t file.now i j)
  pub count : length (days_in t file.now i j) ≡ get_or file.now (cond t j i) 0

days-told : (t : Bool) {s l : Bool} → s ≡ not t → l ≡ t → {file : Bor (List ℕ)} {i j : ℕ} (short long : Option FileDays) {o : Option FileDays} (v : FileDays)
    → DaysRead s 2 file i short → DaysRead l 4 file j long → o ≡ option_or short long → o ≡ Some v → Told t file i j v
days-told t es el {file} {i} {j} short long v hs hl eo ev =
    go t short long (subst (λ s. DaysRead s 2 file i short) es hs) (subst (λ l. DaysRead l 4 file j long) el hl) (sym eo ∙ ev)
  where
    go : (t : Bool) (short long : Option FileDays) → DaysRead (not t) 2 file i short → DaysRead t 4 file j long → option_or short long ≡ Some v → Told t file i j v
    go false (Some d) long h k e =
        let is : d ≡ v = cc in record {
          days = subst (λ x. IsDays 2 file i x ((days 2).value file.now i)) is h;
          count = values_length (day 2) file.now (i + 1) (get_or file.now i 0);
        }
    go false None long h k e = absurd h
    go true (Some d) long h k e = let none = h.0 in let never : ⊥ = cc in absurd never
    go true None (Some d) h k e =
        let is : d ≡ v = cc in record {
          days = subst (λ x. IsDays 4 file j x ((days 4).value file.now j)) is k;
          count = values_length (day 4) file.now (j + 1) (get_or file.now j 0);
        }
    go true None None h k e = absurd k

pub rates-told : (file part : Bor (List ℕ)) (w at n : ℕ) → failing (checks file.now) ≡ None → w ≡ rate_bytes_in (file_map file.now) → at ≡ days_at file.now → n ≡ get_or file.now at 0
    → IsPart file part (at + 1) (w * 60 * n) → RatesPart file part
unfolding rates_part day_count
rates-told file part w at n z ew ea en h =
    let count = en ∙ ap (λ i. get_or file.now i 0) ea in
    record {
      bytes = rw z (h.bytes ∙ (λ i. take (ew i * 60 * count i) (drop (ea i + 1) file.now)));
      place = rw z (h.place ∙ ap (λ i. (file.ref_ptr.0, i + 1 + file.ref_ptr.1)) ea);
    }

-- ---- the map, and the fields that it announces

module _ {file : Bor (List ℕ)} {start c1 : Cursor} {map : Map} (begun : (start.file ≡ file) × (start.at ≡ 0))
    (read : Reads map_field (λ v x. v.bits ≡ x) start c1 (Ok map)) where
  abbrev bits : ℕ
  bits = file_map file.now

  file-is : c1.file ≡ file
  file-is = read.1.1.same ∙ begun.0

  at-is : c1.at ≡ 2
  at-is = read.1.1.behind ∙ ap (λ i. i + 2) begun.1

  bits-are : map.bits ≡ bits
  unfolding file_map
  bits-are = read.1.0 ∙ ap₂ (λ b i. number b.now i 2) begun.0 begun.1

  map-right : failing (map_field.checks file.now 0) ≡ None
  map-right = ap₂ (λ b i. failing (map_field.checks b.now i)) (sym begun.0) (sym begun.1) ∙ read.0

  module _ {u s b a l e : Bool} (eu : u ≡ stands 0 map.bits) (es : s ≡ not (stands 7 map.bits)) (eb : b ≡ stands 3 map.bits) (ea : a ≡ stands 4 map.bits)
      (el : l ≡ stands 7 map.bits) (ee : e ≡ stands 8 map.bits) where
    abbrev t : Bool
    t = stands 7 bits

    ku : u ≡ stands 0 bits
    ku = eu ∙ ap (stands 0) bits-are

    ks : s ≡ not t
    ks = es ∙ ap (λ n. not (stands 7 n)) bits-are

    kb : b ≡ stands 3 bits
    kb = eb ∙ ap (stands 3) bits-are

    ka : a ≡ stands 4 bits
    ka = ea ∙ ap (stands 4) bits-are

    kl : l ≡ t
    kl = el ∙ ap (stands 7) bits-are

    ke : e ≡ stands 8 bits
    ke = ee ∙ ap (stands 8) bits-are

    abbrev fields : Field Parts
    fields = laid u s b a l e

    fields-are : fields ≡ fields_of file.now
    fields-are = (λ k. laid (ku k) (ks k) (kb k) (ka k) (kl k) (ke k)) ∙ announced-are bits

    checks-are : fields.checks c1.file.now c1.at ≡ (fields_of file.now).checks file.now 2
    checks-are = λ k. (fields-are k).checks (file-is k).now (at-is k)

    pub fields-refused : (r : Refusal) → Some r ≡ failing (fields.checks c1.file.now c1.at) → Some r ≡ failing (checks file.now)
    fields-refused r h = field-refused file.now map-right r (h ∙ ap failing checks-are)

    module _ {c2 : Cursor} (right : failing (fields.checks c1.file.now c1.at) ≡ None) (moved : Moved c1 c2 (fields.end c1.file.now c1.at)) where
      end-is : leb (length c2.file.now) c2.at ≡ leb (length file.now) ((fields_of file.now).end file.now 2)
      end-is = ap₂ (λ b i. leb (length b.now) i) (moved.same ∙ file-is) (moved.behind ∙ (λ k. (fields-are k).end (file-is k).now (at-is k)))

      fields-right : failing ((fields_of file.now).checks file.now 2) ≡ None
      fields-right = ap failing (sym checks-are) ∙ right

      pub more-refused : (e : Refusal) → Some e ≡ failing ((leb (length c2.file.now) c2.at, BytesFollow) ∷ []) → Some e ≡ failing (checks file.now)
      more-refused e h = end-refused file.now map-right fields-right e (h ∙ ap (λ b. failing ((b, BytesFollow) ∷ [])) end-is)

      -- where the two days fields start
      abbrev ufr_field : Bool → Field ℕ
      ufr_field u = optional u default_ufr (field Ufr (number_of 2 0 5000))

      abbrev short_at : ℕ
      short_at = (ufr_field (stands 0 bits)).end file.now 2

      abbrev long_at : ℕ
      long_at = (first_laid (stands 0 bits) (not t) (stands 3 bits) (stands 4 bits)).end file.now 2

      days-at : days_at file.now ≡ cond t long_at short_at
      unfolding days_at ufr_end
      days-at = go t
        where
          go : (t : Bool) → cond t ((first_laid (stands 0 bits) (not true) (stands 3 bits) (stands 4 bits)).end file.now 2) (cond (stands 0 bits) 4 2)
              ≡ cond t ((first_laid (stands 0 bits) (not t) (stands 3 bits) (stands 4 bits)).end file.now 2) short_at
          go true = refl
          go false = refl

      abbrev parts : Parts
      parts = (laid (stands 0 bits) (not t) (stands 3 bits) (stands 4 bits) t (stands 8 bits)).value file.now 2

      case-is : case_of file.now ≡ case_from (rate_bytes_in bits) parts
      unfolding case_of
      case-is = ap (λ (f : Field Parts). case_from (rate_bytes_in bits) (f.value file.now 2)) (sym (announced-are bits))

      module _ (short long : Option FileDays) {o : Option FileDays} {v : FileDays} (hs : DaysRead s 2 c1.file ((ufr_field u).end c1.file.now c1.at) short)
          (hl : DaysRead l 4 c1.file ((first_laid u s b a).end c1.file.now c1.at) long) (eo : o ≡ option_or short long) (ev : o ≡ Some v) where
        told : Told t file short_at long_at v
        told =
            subst {A = Bor (List ℕ) × (ℕ × ℕ)} (λ p. Told t p.0 p.1.0 p.1.1 v)
            (λ k. (file-is k, ((ufr_field (ku k)).end (file-is k).now (at-is k), (first_laid (ku k) (ks k) (kb k) (ka k)).end (file-is k).now (at-is k))))
            (days-told t ks kl short long v hs hl eo ev)

        -- 6, by the sums
        six-is : every (forward_right v.summed.per_step v.summed.sums) 60 ≡ forwards_right (per_step (case_of file.now)) (case_of file.now).days
        unfolding per_step
        six-is =
            forwards-are told.days.sums
            ∙ ap (λ n. forwards_right n (days_in t file.now short_at long_at)) told.days.sums.step
            ∙ ap (λ x. forwards_right (per_step x) x.days) (sym case-is)

        module _ (ended : failing ((leb (length c2.file.now) c2.at, BytesFollow) ∷ []) ≡ None) where
          last : {o : Option Refusal} → o ≡ failing ((every (forward_right v.summed.per_step v.summed.sums) 60, Forward) ∷ []) → o ≡ failing (checks file.now)
          last h =
              last-is file.now map-right fields-right (ap (λ b. failing ((b, BytesFollow) ∷ [])) (sym end-is) ∙ ended)
              (h ∙ ap (λ b. failing ((b, Forward) ∷ [])) six-is)

          pub six-refused : (e : Refusal) → Some e ≡ failing ((every (forward_right v.summed.per_step v.summed.sums) 60, Forward) ∷ [])
              → Some e ≡ failing (checks file.now)
          six-refused e h = last h

          -- the case is made of what was read
          module _ (within : failing ((every (forward_right v.summed.per_step v.summed.sums) 60, Forward) ∷ []) ≡ None) where
            accepted : None ≡ failing (checks file.now)
            accepted = last (sym within)

            abbrev was : Parts
            was = fields.value c1.file.now c1.at

            parts-are : was ≡ parts
            parts-are = λ k. (laid (ku k) (ks k) (kb k) (ka k) (kl k) (ke k)).value (file-is k).now (at-is k)

            pub all-read : {ufr correlation : ℕ} {pension bonds sums : List ℕ} {a' : Amounts} {x : Shocks} {p : People}
                → IfThere u (ufr ≡ was.0.0) ((ufr ≡ default_ufr) × (was.0.0 ≡ default_ufr))
                → pension ≡ was.0.1.1.0
                → IfThere b (bonds ≡ was.0.1.1.1.0) ((bonds ≡ []) × (was.0.1.1.1.0 ≡ []))
                → IfThere a (a' ≡ was.0.1.1.1.1.0) ((a' ≡ no_amounts) × (was.0.1.1.1.1.0 ≡ no_amounts))
                → x ≡ shocks_from was.0.1.1.1.1.1.0 default_equity_correlation
                → p ≡ was.0.1.1.1.1.1.1
                → IfThere e (correlation ≡ was.1.1) ((correlation ≡ default_equity_correlation) × (was.1.1 ≡ default_equity_correlation))
                → sums ≡ raised v.summed.per_step v.summed.sums
                → Read file (Ok record {
                  «case» = record { ufr = ufr; per_step = v.summed.per_step; sums = sums; pension = pension; bonds = bonds; amounts = a'; shocks = record x { equity_correlation = correlation }; people = p };
                  rates = v.rates;
                  rates_at = v.rates_at;
                })
            unfolding held per_step
            all-read hu hp hb ha hx hg hc es = record {
              refusal = accepted;
              given = (
                (λ j. record {
                  ufr = (read-or-absent u _ _ _ hu ∙ ap (λ y. y.0.0) parts-are) j;
                  per_step = told.days.sums.step j;
                  sums = (es ∙ sums-held (case_from (rate_bytes_in bits) parts) told.days.sums) j;
                  pension = (hp ∙ ap (λ y. y.0.1.1.0) parts-are) j;
                  bonds = (read-or-absent b _ _ _ hb ∙ ap (λ y. y.0.1.1.1.0) parts-are) j;
                  amounts = (read-or-absent a _ _ _ ha ∙ ap (λ y. y.0.1.1.1.1.0) parts-are) j;
                  shocks = ap₂ (λ (y : Shocks) (n : ℕ). record y { equity_correlation = n })
                      (hx ∙ ap (λ (y : Parts). shocks_from y.0.1.1.1.1.1.0 default_equity_correlation) parts-are)
                      (read-or-absent e _ _ _ hc ∙ ap (λ (y : Parts). y.1.1) parts-are) j;
                  people = (hg ∙ ap (λ y. y.0.1.1.1.1.1.1) parts-are) j;
                }) ∙ ap held (sym case-is),
                rates-told file v.rates (rate_bytes_in bits) (cond t long_at short_at) (length (days_in t file.now short_at long_at)) (sym accepted) refl (sym days-at)
                    told.count told.days.part,
              );
              there = told.days.place ∙ ap (λ i. i + 1) (sym days-at);
            }

pub map-is-refused : {file : Bor (List ℕ)} (start : Cursor) (begun : (start.file ≡ file) × (start.at ≡ 0)) (e : Refusal)
    → Some e ≡ failing (map_field.checks start.file.now start.at) → Some e ≡ failing (checks file.now)
map-is-refused {file} start begun e h = map-refused file.now e (h ∙ ap₂ (λ b i. failing (map_field.checks b.now i)) begun.0 begun.1)

-- the answer where a step refuses
pub read-refused : (file : Bor (List ℕ)) (e : Refusal) → Some e ≡ failing (checks file.now) → Read file (Err e)
read-refused file e h = record { refusal = h; given = tt; there = tt }
