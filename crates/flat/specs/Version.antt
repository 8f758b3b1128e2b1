-- The version of the engine, and the kit that it is proved with, as a struct that C knows. Assumes nothing.
-- Written by hosts/words from hosts/words.toml and VERSION: change those, and run it.
use Rattle.std.specs.Prelude.{ℕ, ◌-◌, List, ◌++◌, length, replicate, codes}
use Rattle.flat.specs.declared.HostVersion.{HostVersion}

-- a text as C reads it from this many bytes: zeros follow it
abbrev pub padded : ℕ → List ℕ → List ℕ
padded room text = text ++ replicate (room - length text) 0

abbrev pub engine_version : HostVersion
engine_version = record {
  major = 0;
  minor = 10;
  patch = 0;
  kit = padded 32 (codes "rattle-kit-13f");
}
