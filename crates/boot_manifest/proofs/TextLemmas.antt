-- The bytes of a text are ASCII.
use Rattle.std.proofs.Common.{◌≡◌, ℕ, ◌<◌, List, true, arith}
use Rattle.std.proofs.lemmas.Bool.Decides.{nat_tests}
use Rattle.std.proofs.lemmas.List.Sums.{AllPass-from_list_all}
use Rattle.std.proofs.lemmas.Str.{IsUtf8-from_ascii}
use Rattle.std.proofs.lemmas.Str.Ascii.{IsAscii-from_all}
use Rattle.std.specs.List.{list_all}
use Rattle.std.specs.Str.{IsUtf8}
use Rattle.line_text.specs.Characters.{is_text_byte}

small : (b : ℕ) → is_text_byte b ≡ true → b < 128
small b is = grind (arith, nat_tests)

pub text_utf8 : (bs : List ℕ) → list_all is_text_byte bs ≡ true → IsUtf8 bs
text_utf8 bs all = IsUtf8-from_ascii bs (IsAscii-from_all bs (λ k d within. small _ (AllPass-from_list_all is_text_byte bs all k d within)))
