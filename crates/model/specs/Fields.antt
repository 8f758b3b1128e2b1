-- The kinds of fields that a case file is made of (METHOD, The case file; METHOD, Refusals). A kind says at once how a value is written as
-- bytes, how it is read from a position of a file on, and what is checked, in order. Layout puts them together. Positions are functions of
-- the bytes, and a byte past the end counts as 0: whether a file is long enough is a matter of the checks.
use Rattle.std.specs.Prelude.{ℕ, zero, suc, ◌+◌, ◌*◌, Bool, true, ◌&&◌, if◌then◌else◌, List, [], ◌∷◌, ◌++◌, nat_le, ◌==◌, length, slice_index, ℤ}
use Rattle.std.specs.Int.Signed.{le_z}
use Rattle.refusal.specs.declared.Refusal.{Refusal}
use Rattle.refusal.specs.declared.Refusal.TheVariants.{EndsEarly}
use Rattle.model.specs.Numbers.{number, bytes_of}

-- a test, and the refusal where it fails
abbrev pub Check : Type 0
Check = Bool × Refusal

-- the file has at least `end` bytes: else "it ends inside the map or inside a field whose bit stands"
abbrev pub reaches : List ℕ → ℕ → Bool
reaches file end = nat_le end (length file)

-- a whole number, or an integer, is within its limits
abbrev pub within : ℕ → ℕ → ℕ → Bool
within least most v = nat_le least v && nat_le v most

abbrev pub within_z : ℤ → ℤ → ℤ → Bool
within_z least most z = le_z least z && le_z z most

-- What has the same number of bytes whatever its value: how many; the bytes of a value; the value at a position of a file; whether a
-- value is within its limits.
pub record Fixed (A : Type 0) : Type 1 where
  pub size : ℕ
  pub bytes : A → List ℕ
  pub value : List ℕ → ℕ → A
  pub right : A → Bool

-- "Big-endian; unsigned unless said": a number of w bytes
abbrev pub number_of : ℕ → ℕ → ℕ → Fixed ℕ
number_of w least most = record {
  size = w;
  bytes = bytes_of w;
  value = λ file at. number file at w;
  right = within least most;
}

-- one after another
abbrev pub pair_of : {A B : Type 0} → Fixed A → Fixed B → Fixed (A × B)
pair_of x y = record {
  size = x.size + y.size;
  bytes = λ v. x.bytes v.0 ++ y.bytes v.1;
  value = λ file at. (x.value file at, y.value file (at + x.size));
  right = λ v. x.right v.0 && y.right v.1;
}

-- a run of one kind
abbrev pub bytes_all : {A : Type 0} → Fixed A → List A → List ℕ
bytes_all x [] = []
bytes_all x (v ∷ vs) = x.bytes v ++ bytes_all x vs

abbrev pub value_all : {A : Type 0} → Fixed A → List ℕ → ℕ → ℕ → List A
value_all x file at zero = []
value_all x file at (suc n) = x.value file at ∷ value_all x file (at + x.size) n

abbrev pub right_all : {A : Type 0} → Fixed A → List A → Bool
right_all x [] = true
right_all x (v ∷ vs) = x.right v && right_all x vs

-- n of one kind; a list that is read has n, one that a host hands in may have another number
abbrev pub several : {A : Type 0} → ℕ → Fixed A → Fixed (List A)
several n x = record {
  size = x.size * n;
  bytes = bytes_all x;
  value = λ file at. value_all x file at n;
  right = λ vs. length vs == n && right_all x vs;
}

-- the same bytes, under other names
abbrev pub named : {A B : Type 0} → (A → B) → (B → A) → Fixed A → Fixed B
named to from x = record {
  size = x.size;
  bytes = λ v. x.bytes (from v);
  value = λ file at. to (x.value file at);
  right = λ v. x.right (from v);
}

-- A field: the bytes of a value, and its checks where it is in no file, which are those of its numbers; and of a file and the position
-- where the field starts: the value, the position after it, the checks.
pub record Field (A : Type 0) : Type 1 where
  pub bytes : A → List ℕ
  pub limits : A → List Check
  pub value : List ℕ → ℕ → A
  pub end : List ℕ → ℕ → ℕ
  pub checks : List ℕ → ℕ → List Check

-- "the rest of its length (1), its numbers from the front" (r)
abbrev pub field : {A : Type 0} → Refusal → Fixed A → Field A
field r x = record {
  bytes = x.bytes;
  limits = λ v. (x.right v, r) ∷ [];
  value = x.value;
  end = λ file at. at + x.size;
  checks = λ file at. (reaches file (at + x.size), EndsEarly) ∷ (x.right (x.value file at), r) ∷ [];
}

-- "its count byte (1, then 4 or 7), the rest of its length (1), its numbers from the front" (r): 1 to `most` of one kind
abbrev pub counted : {A : Type 0} → ℕ → Refusal → Refusal → Fixed A → Field (List A)
counted most c r x = record {
  bytes = λ vs. bytes_of 1 (length vs) ++ bytes_all x vs;
  limits = λ vs. (within 1 most (length vs), c) ∷ (right_all x vs, r) ∷ [];
  value = λ file at. value_all x file (at + 1) (slice_index file at);
  end = λ file at. at + 1 + x.size * slice_index file at;
  checks = λ file at.
      (reaches file (at + 1), EndsEarly)
      ∷ (within 1 most (slice_index file at), c)
      ∷ (reaches file (at + 1 + x.size * slice_index file at), EndsEarly)
      ∷ (right_all x (value_all x file (at + 1) (slice_index file at)), r)
      ∷ [];
}

-- "only the fields whose bit stands": an absent one has no bytes and no checks, and its value is known
abbrev pub optional : {A : Type 0} → Bool → A → Field A → Field A
optional there absent f = record {
  bytes = λ v. if there then f.bytes v else [];
  limits = λ v. if there then f.limits v else [];
  value = λ file at. if there then f.value file at else absent;
  end = λ file at. if there then f.end file at else at;
  checks = λ file at. if there then f.checks file at else [];
}

-- "in bit order": one field after another
infixr 4 ◌then◌
abbrev pub ◌then◌ : {A B : Type 0} → Field A → Field B → Field (A × B)
f then g = record {
  bytes = λ v. f.bytes v.0 ++ g.bytes v.1;
  limits = λ v. f.limits v.0 ++ g.limits v.1;
  value = λ file at. (f.value file at, g.value file (f.end file at));
  end = λ file at. g.end file (f.end file at);
  checks = λ file at. f.checks file at ++ g.checks file (f.end file at);
}
