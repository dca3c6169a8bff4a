-- What is shown of an item.
use Rattle.std.specs.Prelude.{◌≡◌, ◌<◌, ◌^◌, ℕ, List, [], ◌∷◌, ◌++◌, length, Bool, true, false, Some, unwrap_or}
use Rattle.std.specs.List.{flat_map}
use Rattle.aegis_limits.specs.Limits.{page_size}
use Rattle.aegis_limits.specs.VersionLimits.{version_number}
use Rattle.env_frames.specs.Transfer.{Registers, transfer_number}
use Rattle.frame_store.specs.Pages.{word_bytes}
use Rattle.world_model.specs.Answer.{verdict_code, verdict_value}
use Rattle.world_model.specs.Call.{any}
use Rattle.world_model.specs.Item.{Item, Boot, Step, Start, End, Transfer, Killed, Answer, Gained, Lost, Left, Packet, Line, Asked, Taken}
use Rattle.world_model.specs.Page.{KeptPage}
use Rattle.feed_log.specs.declared.view.ItemKind.{ItemKind}
use Rattle.feed_log.specs.declared.view.ItemKind.TheVariants as kind

pub record ItemSeen : Type 0 where
  pub kind : ItemKind
  pub a : ℕ
  pub b : ℕ
  pub bytes : List ℕ

abbrev pub view_of : ItemKind → ℕ → ℕ → List ℕ → ItemSeen
view_of kind a b bytes = record { kind = kind; a = a; b = b; bytes = bytes }

abbrev pub mode_number : Bool → ℕ
mode_number true = 1
mode_number false = 0

-- a guaranteed page: its VPN and its mode as words, and its bytes
abbrev pub page_text : KeptPage → List ℕ
page_text p = word_bytes p.vpn ++ word_bytes (mode_number p.writable) ++ p.bytes

-- a record in the image: number, name, entry and mask, and the guaranteed pages by rising VPN
abbrev pub record_text : ℕ → List ℕ → ℕ → ℕ → List KeptPage → List ℕ
record_text number name entry accept kept =
    number ∷ name ++ word_bytes entry ++ word_bytes accept ++ flat_map page_text kept

-- registers 1 to 31, HI and LO
abbrev pub transfer_text : Registers → List ℕ
transfer_text r = flat_map word_bytes r.regs ++ word_bytes r.hi ++ word_bytes r.lo

-- the numbers of an item in their order, 0 for one that it hasn't, and its bytes
abbrev pub item_seen : Item → ItemSeen
item_seen (Boot version number name entry accept kept) =
    view_of kind.Boot (version_number version) 0 (record_text number name entry accept kept)
item_seen Step = view_of kind.Step 0 0 []
item_seen Start = view_of kind.Start 0 0 []
item_seen End = view_of kind.End 0 0 []
item_seen (Transfer from how registers) =
    view_of kind.Transfer from (transfer_number how) (transfer_text registers)
item_seen Killed = view_of kind.Killed 0 0 []
item_seen (Answer verdict) = view_of kind.Answer (verdict_code verdict) (verdict_value verdict) []
item_seen (Gained page writable bytes) = view_of kind.Gained page (mode_number writable) bytes
item_seen (Lost page) = view_of kind.Lost page 0 []
item_seen (Left page offset bytes) = view_of kind.Left page offset bytes
item_seen (Packet claim packet) = view_of kind.Packet claim 0 packet
item_seen (Line line) = view_of kind.Line line 0 []
item_seen (Asked outstanding deadline) = view_of kind.Asked outstanding deadline []
item_seen (Taken page backup) = view_of kind.Taken page (unwrap_or backup any) []

abbrev pub IsWord : ℕ → Type 0
IsWord n = n < 2 ^ 32

abbrev pub AreWords : List ℕ → Type 0
AreWords [] = Unit {0}
AreWords (n ∷ numbers) = IsWord n × AreWords numbers

abbrev pub ArePages : List KeptPage → Type 0
ArePages [] = Unit {0}
ArePages (p ∷ pages) = IsWord p.vpn × (length p.bytes ≡ page_size) × ArePages pages

pub record IsRecordFit (name : List ℕ) (entry accept : ℕ) (kept : List KeptPage) : Type 0 where
  pub name_whole : length name ≡ 8
  pub entry_word : IsWord entry
  pub accept_word : IsWord accept
  pub pages : ArePages kept

pub record AreRegistersFit (r : Registers) : Type 0 where
  pub count : length r.regs ≡ 31
  pub regs : AreWords r.regs
  pub hi : IsWord r.hi
  pub lo : IsWord r.lo

-- what is shown as words are words, a name has eight bytes, and a backup isn't the number that stands for none
abbrev pub IsFit : Item → Type 0
IsFit (Boot version number name entry accept kept) = IsRecordFit name entry accept kept
IsFit (Transfer from how registers) = AreRegistersFit registers
IsFit (Taken page backup) = backup ≡ Some any → ⊥
IsFit item = Unit {0}

abbrev pub AlikeWhereShownAlike : Type 0
AlikeWhereShownAlike = (x y : Item) → IsFit x → IsFit y → item_seen x ≡ item_seen y → x ≡ y
