-- What reading many files from one input gives. The input is unknown: these say how large an answer
-- is, what a lent buffer keeps, and what a reader whose bytes are known has lost. Assumes nothing.
use Rattle.std.specs.Prelude.{ℕ, ◌-◌, ◌^◌, ◌≤◌, ◌<◌, ◌≡◌, List, ◌⊎◌, Option, None, Some, IfSome, length, take, drop}
use Rattle.std.specs.Io.KnownBytes.{Consumes, Keeps, IsAtEnd}
use Rattle.model.specs.Numbers.{number}

-- the answer at the end of the input: the largest number of 64 bits, so no buffer is so long
abbrev pub end_of_input : ℕ
end_of_input = 2 ^ 64 - 1

-- a length of four bytes, or the end of the input
abbrev pub LengthOrEnd : ℕ → Type 0
LengthOrEnd n = (n < 2 ^ 32) ⊎ (n ≡ end_of_input)

-- the reader has lost this many bytes, which are at the front of a buffer
pub record LosesFront (before after : Option (List ℕ)) (buf : List ℕ) (count : ℕ) : Type 0 where
  pub within : count ≤ length buf
  pub lost : Consumes before after (take count buf)

-- the reader has lost this many bytes
abbrev pub LosesCount : Option (List ℕ) → Option (List ℕ) → ℕ → Type 0
LosesCount before after count = (bytes : List ℕ) × (length bytes ≡ count) × Consumes before after bytes

-- the reader has lost four bytes, and they are the length, the highest first
pub record LengthRead (before after : Option (List ℕ)) (n : ℕ) : Type 0 where
  pub head : List ℕ
  pub four : length head ≡ 4
  pub lost : Consumes before after head
  pub told : n ≡ number head 0 4

-- a length of four bytes; none exactly where fewer are left, and then all are lost
abbrev pub LengthGiven : Option (List ℕ) → Option (List ℕ) → Option ℕ → Type 0
LengthGiven before after None = IfSome before (λ bytes. length bytes < 4) × IsAtEnd after
LengthGiven before after (Some n) = (n < 2 ^ 32) × LengthRead before after n

-- `count` bytes are at the front of a buffer
abbrev pub IsPrefixLen : ℕ → List ℕ → Type 0
IsPrefixLen count buf = (count ≤ length buf) × (count ≡ length (take count buf))

-- `count` bytes of a file of `wanted` were put to the front of a buffer: what it holds from `wanted` on stays, and one that is too short
-- stays whole
pub record FileRead (wanted count : ℕ) (before after : List ℕ) : Type 0 where
  pub most : count ≤ wanted
  pub rest : drop wanted after ≡ drop wanted before
  pub short : length before < wanted → (count ≡ 0) × (after ≡ before)

-- a file of `wanted` bytes was read to the front of a buffer: `count` of them, fewer only where no more were left
pub record FileAtFront (wanted count : ℕ) (before after : Option (List ℕ)) (buf : List ℕ) : Type 0 where
  pub most : count ≤ wanted
  pub front : LosesFront before after buf count
  pub end : count < wanted → IsAtEnd after

-- how many bytes of a file there were; none exactly where the buffer is too short, and then nothing is read
abbrev pub FileGiven : ℕ → Option (List ℕ) → Option (List ℕ) → List ℕ → List ℕ → Option ℕ → Type 0
FileGiven wanted before after held left None = (length held < wanted) × (left ≡ held) × Keeps before after
FileGiven wanted before after held left (Some count) = (wanted ≤ length held) × FileAtFront wanted count before after left
