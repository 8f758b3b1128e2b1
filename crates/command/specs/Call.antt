-- What a call asks for. Assumes nothing.
use Rattle.std.specs.Prelude.{◌≡◌, ◌⊎◌, ⊤}
use Rattle.command.specs.declared.Form.{Form}
use Rattle.command.specs.declared.Form.TheVariants.{Text, Json, Csv}

-- the cells of CSV are separated by , or ;
abbrev pub HasMark : Form → Type 0
HasMark (Csv mark) = (mark ≡ 44) ⊎ (mark ≡ 59)
HasMark Json = ⊤
HasMark Text = ⊤
