-- A case written back in its shortest form (METHOD, Saving a case). Its checks and its bytes are those of the layout.
use Rattle.std.specs.Prelude.{ℕ, zero, suc, ◌/◌, ◌%◌, Bool, true, ◌&&◌, not, if◌then◌else◌, List, [], ◌∷◌, ◌++◌, nat_le, nat_lt, ◌==◌, length, take, drop, ℤ, Option, Some, None, Result, Ok, Err}
use Rattle.refusal.specs.declared.Refusal.{Refusal}
use Rattle.refusal.specs.declared.Refusal.TheVariants.{WrongFields, Forward, Room}
use Rattle.model.specs.Constants.{default_ufr, default_equity_correlation, last_market_term}
use Rattle.model.specs.Case.{FileCase, known_form, per_step}
use Rattle.model.specs.Fields.{Check}
use Rattle.model.specs.Layout.{amounts_in_order, Present, layout, parts_of, file_of}
use Rattle.model.specs.Refusals.{failing, first_of, forwards_right}
use Rattle.model.specs.declared.case.CaseFields.{CaseFields}

-- ---- a case as a host hands it in: the fields that are no lists, and the rates, the pension flows and the bond flows as lists. It says how
-- many bytes a rate has, 2 or 4, and the rates are in the units of that days field.

-- n days from the front of a list of rates
abbrev pub days_in : ℕ → List ℤ → List (List ℤ)
days_in zero rates = []
days_in (suc n) rates = take last_market_term rates ∷ days_in n (drop last_market_term rates)

-- "n days of 60 zero rates", one day after another; a list that is no whole number of days has no n, which refusal 4 covers
unfoldable pub days_of : List ℤ → List (List ℤ)
days_of rates = if length rates % last_market_term == 0 then days_in (length rates / last_market_term) rates else []

abbrev pub given : CaseFields → List ℤ → List ℕ → List ℕ → FileCase
given fields rates pension bonds = record {
  rate_bytes = fields.rate_bytes;
  ufr = fields.ufr;
  days = days_of rates;
  pension = pension;
  bonds = bonds;
  amounts = fields.amounts;
  shocks = fields.shocks;
  people = fields.people;
}

-- ---- its bytes

abbrev pub all_zero : List ℕ → Bool
all_zero [] = true
all_zero (v ∷ vs) = v == 0 && all_zero vs

-- "A UFR of 4,200, an all-zero amounts field, an empty bond list and a correlation between the equity classes of 1,000 are left out."
abbrev pub needed : FileCase → Present
needed k = record {
  ufr = not (k.ufr == default_ufr);
  bonds = nat_lt 0 (length k.bonds);
  amounts = not (all_zero (amounts_in_order k.amounts));
  equity = not (k.shocks.equity_correlation == default_equity_correlation);
}

-- the bytes of the layout, in the shortest form
unfoldable pub shortest : FileCase → List ℕ
shortest k = file_of (needed k) k

-- ---- its checks

-- "A case outside the limits gets the number that its file would have, in the order of a file: each field in bit order, as its file has
-- them; then 6". The fields are those of its shortest file: without bond flows there is no count of them to check. A case cannot break the
-- rules of a file's length (1, 2), and of those of its map (3) only one: rates of neither 2 nor 4 bytes have no days field.
unfoldable pub case_checks : FileCase → List Check
case_checks k =
    (known_form k.rate_bytes, WrongFields)
    ∷ ((layout k.rate_bytes (needed k)).limits (parts_of k) ++ ((forwards_right (per_step k) k.days, Forward) ∷ []))

unfoldable pub case_refusal : FileCase → ℕ
case_refusal k = first_of (case_checks k)

-- "then 14 when the lent buffer is shorter than the bytes needed": by the length of the buffer
abbrev pub save_checks : FileCase → ℕ → List Check
save_checks k room = case_checks k ++ ((nat_le (length (shortest k)) room, Room) ∷ [])

unfoldable pub save_refusal : FileCase → ℕ → ℕ
save_refusal k room = first_of (save_checks k room)

-- ---- what is answered, and what the lent buffer holds afterwards

-- "The writer returns the count of bytes written."
abbrev pub saved_of : Option Refusal → ℕ → Result ℕ Refusal
saved_of None count = Ok count
saved_of (Some r) count = Err r

-- the count of bytes written, or a refusal
unfoldable pub save_answer : FileCase → ℕ → Result ℕ Refusal
save_answer k room = saved_of (failing (save_checks k room)) (length (shortest k))

-- "The buffer's bytes past the written ones keep their content."; "a refusal writes no byte"
abbrev pub stored_in : Option Refusal → List ℕ → List ℕ → List ℕ
stored_in None bytes held = bytes ++ drop (length bytes) held
stored_in (Some r) bytes held = held

unfoldable pub saved_after : FileCase → List ℕ → List ℕ
saved_after k held = stored_in (failing (save_checks k (length held))) (shortest k) held
