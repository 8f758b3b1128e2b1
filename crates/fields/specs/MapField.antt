-- The map as a field: its checks are those of the map, and its end is where the first field starts.
use Rattle.std.specs.Prelude.{ℕ, ◌+◌, [], ◌∷◌}
use Rattle.refusal.specs.declared.Refusal.TheVariants.{EndsEarly, WrongFields}
use Rattle.model.specs.Numbers.{number, bytes_of}
use Rattle.model.specs.Fields.{Field, reaches}
use Rattle.model.specs.Refusals.{bits_right}

abbrev pub map_field : Field ℕ
map_field = record {
  bytes = bytes_of 2;
  limits = λ map. (bits_right map, WrongFields) ∷ [];
  value = λ file at. number file at 2;
  end = λ file at. at + 2;
  checks = λ file at. (reaches file (at + 2), EndsEarly) ∷ (bits_right (number file at 2), WrongFields) ∷ [];
}
