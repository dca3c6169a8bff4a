-- The characters of texts.
use Rattle.std.specs.Prelude.{ℕ, Bool, nat_le, ◌==◌, ◌&&◌, ◌||◌}

-- the characters of a text: tab, line feed, carriage return, and from the space to `~`
abbrev pub is_text_byte : ℕ → Bool
is_text_byte b = b == 9 || b == 10 || b == 13 || (nat_le 32 b && nat_le b 126)

-- space and tab
abbrev pub is_blank : ℕ → Bool
is_blank b = b == 32 || b == 9
