-- What a reading tells of a file that keeps the layout and limits, the empty part of one that is refused, and what holds of a call with a lent
-- slice.
use Rattle.std.proofs.Common.{◌≡◌, ◌∙◌, ℕ, List, [], get_or, ap, sym, zero-add, Some, None, Result, Ok, Err}
use Rattle.std.specs.Borrow.{Bor}
use mir.Syntax.{w8}
use mir.Val.{Fits}
use Rattle.model.specs.Numbers.{Bytes}
use Rattle.model.specs.Refusals.{failing, checks, rates_part}
use Rattle.model.specs.Promises.{RefusalCall, PartCall}
use Rattle.heldcase.specs.Held.{held}
use Rattle.theory.proofs.acceptance.Acceptance.{accepted-none, refusal-number, accepted-keeps, keeps-accepted}
use Rattle.theory.proofs.acceptance.Promised.{refusal-call, part-call}
use Rattle.reader.specs.Answers.{Read, ReadExactly, RatesPart, behind}
use Rattle.refusal.specs.declared.Refusal.{Refusal}
use Rattle.reader.specs.declared.file.Reading.{Reading}

-- the entries of a lent slice of bytes
pub slice-bytes : (file : List ℕ) → ((i : ℕ) → Fits w8 (get_or file i 0)) → Bytes file
slice-bytes file known = record { small = λ i. (known i).fits }

-- so what holds of a call of every list of bytes holds of each
pub refusal-of-slice : (file : List ℕ) → ((i : ℕ) → Fits w8 (get_or file i 0)) → RefusalCall file
refusal-of-slice file known = refusal-call file (slice-bytes file known)

pub part-of-slice : (file : List ℕ) → ((i : ℕ) → Fits w8 (get_or file i 0)) → PartCall file
part-of-slice file known = part-call file (slice-bytes file known)

pub read-exactly : (file : Bor (List ℕ)) (r : Result Reading Refusal) → Read file r → Bytes file.now → ReadExactly file.now r
read-exactly file (Ok v) h b = record {
  bytes = b;
  refusal = h.refusal;
  keeps_accepted = λ x. h.given.0 ∙ ap held (keeps-accepted file.now x).1;
  accepted_keeps = let k = accepted-keeps file.now b (refusal-number file.now None (sym h.refusal)) in (k.0, h.given.0 ∙ ap held (sym k.1));
}
read-exactly file (Err e) h b = record {
  bytes = b;
  refusal = h.refusal;
  keeps_accepted = λ x. let z = h.refusal ∙ accepted-none file.now (keeps-accepted file.now x).0 in let never : ⊥ = cc in absurd never;
  accepted_keeps = tt;
}

-- a refused file has no part
pub refused-part : (file part : Bor (List ℕ)) (e : Refusal) → Some e ≡ failing (checks file.now) → part.now ≡ [] → part.ref_ptr ≡ file.ref_ptr → RatesPart file part
unfolding rates_part
refused-part file part e h n p =
    let place : file.ref_ptr ≡ behind file.ref_ptr 0 = λ i. (file.ref_ptr.0, sym (zero-add file.ref_ptr.1) i) in
    record { bytes = rw (sym h) n; place = rw (sym h) (p ∙ place) }
