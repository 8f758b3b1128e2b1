-- Numbers in a file of bytes, and runs of them (METHOD, The case file: "All numbers are big-endian; unsigned unless said").
use Rattle.std.specs.Prelude.{ℕ, zero, suc, ◌+◌, ◌*◌, ◌-◌, ◌/◌, ◌%◌, ◌^◌, ◌<◌, Bool, true, ◌&&◌, if◌then◌else◌, List, [], ◌∷◌, ◌++◌, nat_lt, slice_index, ℤ, pos, negsuc, ◌-ℤ◌}

-- the big-endian number of w bytes at a position; a byte past the end counts as 0
unfoldable pub number : List ℕ → ℕ → ℕ → ℕ
number file at zero = 0
number file at (suc w) = number file at w * 256 + slice_index file (at + w)

-- w bytes as two's complement
abbrev pub twos_complement : ℕ → ℕ → ℤ
twos_complement w v = if nat_lt (2 * v) (256 ^ w) then pos v else pos v -ℤ pos (256 ^ w)

-- the other way: the w bytes of a number, and the number whose two's complement is z
unfoldable pub bytes_of : ℕ → ℕ → List ℕ
bytes_of zero v = []
bytes_of (suc w) v = bytes_of w (v / 256) ++ ((v % 256) ∷ [])

abbrev pub unsigned : ℕ → ℤ → ℕ
unsigned w (pos n) = n
unsigned w (negsuc n) = 256 ^ w - suc n

-- a test holds of each index below n
unfoldable pub every : (ℕ → Bool) → ℕ → Bool
every test zero = true
every test (suc n) = every test n && test n

-- the list of the values at each index below n
unfoldable pub table : {A : Type 0} → (ℕ → A) → ℕ → List A
table f zero = []
table f (suc n) = table f n ++ (f n ∷ [])

-- a list of bytes
pub record Bytes (file : List ℕ) : Type 0 where
  pub small : (i : ℕ) → slice_index file i < 256
