-- What is printed.
use Rattle.std.specs.Prelude.{ℕ, true, List, [], ◌∷◌, ◌++◌, ◌/◌, ◌%◌, codes, if◌then◌else◌}
use Rattle.std.specs.Fmt.{digit_glyph}
use Rattle.lines.specs.declared.print.Number16.{Number16}
use Rattle.lines.specs.declared.print.YesOrNo.{YesOrNo}

-- two digits of base 16 in capitals
abbrev pub octet : ℕ → List ℕ
octet x = digit_glyph true (x / 16) ∷ digit_glyph true (x % 16) ∷ []

-- the high octet first
abbrev pub number16 : Number16 → List ℕ
number16 n = octet (n.0 / 256) ++ octet (n.0 % 256)

abbrev pub yes_or_no : YesOrNo → List ℕ
yes_or_no answer = if answer.0 then codes "yes" else codes "no"
