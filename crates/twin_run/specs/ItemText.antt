-- The text of an item, and which items are alike.
use Rattle.std.specs.Prelude.{ℕ, List, [], ◌∷◌, ◌++◌, Bool, ◌==◌, ◌&&◌, if◌then◌else◌, bytes_eq, codes, Some, None}
use Rattle.std.specs.List.{flat_map}
use Rattle.line_text.specs.Text.{dec_text}
use Rattle.line_text.specs.WrittenLine.{bytes_text, or_dash, spaced}
use Rattle.machine_text.specs.Fingerprint.{fingerprint}
use Rattle.run_report.specs.Report.{mode_text}
use Rattle.world_model.specs.Call.{any}
use Rattle.feed_log.specs.declared.view.ItemKind.{ItemKind}
use Rattle.feed_log.specs.declared.view.ItemKind.TheVariants as kind
use Rattle.feed_log.specs.Views.{ItemSeen}

abbrev pub kind_name : ItemKind → List ℕ
kind_name kind.Boot = codes "boot"
kind_name kind.Step = codes "step"
kind_name kind.Start = codes "start"
kind_name kind.End = codes "end"
kind_name kind.Transfer = codes "transfer"
kind_name kind.Killed = codes "killed"
kind_name kind.Answer = codes "answer"
kind_name kind.Gained = codes "gained"
kind_name kind.Lost = codes "lost"
kind_name kind.Left = codes "left"
kind_name kind.Packet = codes "packet"
kind_name kind.Line = codes "line"
kind_name kind.Asked = codes "asked"
kind_name kind.Taken = codes "taken"

-- items are alike if their kinds, their numbers and their bytes are the same
abbrev pub is_alike : ItemSeen → ItemSeen → Bool
is_alike x y = bytes_eq (kind_name x.kind) (kind_name y.kind) && x.a == y.a && x.b == y.b && bytes_eq x.bytes y.bytes

-- a page number, or a dash for the one that stands for none
abbrev pub page_or_dash : ℕ → List ℕ
page_or_dash page = or_dash (if page == any then None else Some page)

-- what is shown behind the name of an item's kind: its numbers, and its bytes or their fingerprint
abbrev pub words_behind : ItemKind → ℕ → ℕ → List ℕ → List (List ℕ)
words_behind kind.Boot version b bytes = fingerprint bytes ∷ []
words_behind kind.Step a b bytes = []
words_behind kind.Start a b bytes = []
words_behind kind.End a b bytes = []
words_behind kind.Transfer from how bytes = dec_text from ∷ dec_text how ∷ fingerprint bytes ∷ []
words_behind kind.Killed a b bytes = codes "excess" ∷ []
words_behind kind.Answer code value bytes = dec_text code ∷ dec_text value ∷ []
words_behind kind.Gained page mode bytes = dec_text page ∷ mode_text (mode == 1) ∷ fingerprint bytes ∷ []
words_behind kind.Lost page b bytes = dec_text page ∷ []
words_behind kind.Left page offset bytes = dec_text page ∷ dec_text offset ∷ bytes_text bytes ∷ []
words_behind kind.Packet claim b bytes = dec_text claim ∷ bytes_text bytes ∷ []
words_behind kind.Line line b bytes = dec_text line ∷ []
words_behind kind.Asked outstanding deadline bytes = dec_text outstanding ∷ dec_text deadline ∷ []
words_behind kind.Taken page backup bytes = dec_text page ∷ page_or_dash backup ∷ []

-- the text of an item
unfoldable pub item_text : ItemSeen → List ℕ
item_text x = kind_name x.kind ++ flat_map spaced (words_behind x.kind x.a x.b x.bytes)
