-- Items that are view_of alike are alike.
use Rattle.std.proofs.Common.{◌≡◌, ◌*◌, ◌/◌, ◌%◌, ℕ, List, [], ◌∷◌, ◌++◌, length, Bool, true, false, Option, None, Some, refl, sym, ◌∙◌, ap, append_assoc, arith}
use Rattle.std.specs.Prelude.{◌==◌, if◌then◌else◌, unwrap_or}
use Rattle.std.specs.List.{flat_map}
use Rattle.std.proofs.lemmas.Bool.{cond_both, eqb-true}
use Rattle.std.proofs.lemmas.List.{length-append}
use Rattle.aegis_limits.specs.Limits.{page_size}
use Rattle.aegis_limits.specs.declared.version.Version.{Version}
use Rattle.aegis_limits.specs.declared.version.Version.TheVariants.{One, Two}
use Rattle.aegis_limits.specs.VersionLimits.{version_number}
use Rattle.env_frames.specs.Transfer.{Registers, transfer_number}
use Rattle.env_frames.specs.declared.transfer.TransferKind.{TransferKind}
use Rattle.env_frames.specs.declared.transfer.TransferKind.TheVariants.{Asynchronous, Synchronous}
use Rattle.frame_store.specs.Pages.{word_bytes}
use Rattle.world_model.specs.declared.code.Code.{Code}
use Rattle.world_model.specs.declared.code.Code.TheVariants as code
use Rattle.world_model.specs.declared.verdict.Verdict.{Verdict}
use Rattle.world_model.specs.declared.verdict.Verdict.TheVariants.{Refuse, Again, Grant}
use Rattle.world_model.specs.Answer.{verdict_code, verdict_value}
use Rattle.world_model.specs.Code.{code_number}
use Rattle.world_model.specs.Call.{any}
use Rattle.world_model.specs.Item.{Item, Boot, Step, Start, End, Transfer, Killed, Answer, Gained, Lost, Left, Packet, Line, Asked, Taken}
use Rattle.world_model.specs.Page.{KeptPage}
use Rattle.feed_log.specs.declared.view.ItemKind.{ItemKind}
use Rattle.feed_log.specs.declared.view.ItemKind.TheVariants as kind
use Rattle.feed_log.specs.Views.{AlikeWhereShownAlike, ArePages, AreWords, AreRegistersFit, IsFit, IsRecordFit, IsWord, ItemSeen, item_seen, mode_number, page_text, record_text, transfer_text}

-- lists in two parts, of which the first are as long
halves : (xs ys us vs : List ℕ) → length xs ≡ length ys → xs ++ us ≡ ys ++ vs → (xs ≡ ys) × (us ≡ vs)
halves [] [] us vs same is = (refl, is)
halves [] (y ∷ ys) us vs same is = absurd (omega arith)
halves (x ∷ xs) [] us vs same is = absurd (omega arith)
halves (x ∷ xs) (y ∷ ys) us vs same is =
    let head : x ≡ y = cc in
    let tail : xs ++ us ≡ ys ++ vs = cc in
    let rest = halves xs ys us vs (omega (arith, same)) tail in
    (ap (λ n. n ∷ xs) head ∙ ap (λ zs. y ∷ zs) rest.0, rest.1)

in_four : (xs ys zs us : List ℕ) → xs ++ ys ++ zs ++ us ≡ xs ++ (ys ++ (zs ++ us))
in_four xs ys zs us = append_assoc (xs ++ ys) zs us ∙ append_assoc xs ys (zs ++ us)

-- words by their bytes
word_same : (v w : ℕ) → IsWord v → IsWord w → word_bytes v ≡ word_bytes w → v ≡ w
word_same v w first next is =
    let a : v % 256 ≡ w % 256 = cc in
    let b : v / 256 % 256 ≡ w / 256 % 256 = cc in
    let c : v / 65536 % 256 ≡ w / 65536 % 256 = cc in
    let d : v / 16777216 % 256 ≡ w / 16777216 % 256 = cc in
    omega (arith, first, next)

words_same : (v w : ℕ) (us vs : List ℕ) → IsWord v → IsWord w → word_bytes v ++ us ≡ word_bytes w ++ vs → (v ≡ w) × (us ≡ vs)
words_same v w us vs first next is = let both = halves (word_bytes v) (word_bytes w) us vs refl is in (word_same v w first next both.0, both.1)

pub all_words_same : (xs ys : List ℕ) → AreWords xs → AreWords ys → flat_map word_bytes xs ≡ flat_map word_bytes ys → xs ≡ ys
all_words_same [] [] first next is = refl
all_words_same [] (y ∷ ys) first next is = cc
all_words_same (x ∷ xs) [] first next is = cc
all_words_same (x ∷ xs) (y ∷ ys) (first, more) (next, others) is =
    let both = words_same x y (flat_map word_bytes xs) (flat_map word_bytes ys) first next is in
    ap (λ n. n ∷ xs) both.0 ∙ ap (λ zs. y ∷ zs) (all_words_same xs ys more others both.1)

-- the modes of pages
mode_word : (writable : Bool) → IsWord (mode_number writable)
mode_word true = omega arith
mode_word false = omega arith

mode_same : (a b : Bool) → mode_number a ≡ mode_number b → a ≡ b
mode_same true true is = refl
mode_same false false is = refl
mode_same true false is = absurd (omega (arith, is))
mode_same false true is = absurd (omega (arith, is))

-- guaranteed pages
page_same : (p r : KeptPage) (us vs : List ℕ) → IsWord p.vpn → IsWord r.vpn → length p.bytes ≡ page_size → length r.bytes ≡ page_size → page_text p ++ us ≡ page_text r ++ vs → (p ≡ r) × (us ≡ vs)
page_same p r us vs first next long as_long is =
    let text : page_text p ≡ word_bytes p.vpn ++ (word_bytes (mode_number p.writable) ++ p.bytes) = refl in
    let parted : word_bytes p.vpn ++ (word_bytes (mode_number p.writable) ++ (p.bytes ++ us)) ≡ word_bytes r.vpn ++ (word_bytes (mode_number r.writable) ++ (r.bytes ++ vs)) = is in
    let vpn = words_same p.vpn r.vpn _ _ first next parted in
    let mode = words_same (mode_number p.writable) (mode_number r.writable) _ _ (mode_word p.writable) (mode_word r.writable) vpn.1 in
    let bytes = halves p.bytes r.bytes us vs (long ∙ sym as_long) mode.1 in
    (λ k. record { vpn = vpn.0 k; writable = mode_same p.writable r.writable mode.0 k; bytes = bytes.0 k }, bytes.1)

pages_same : (xs ys : List KeptPage) → ArePages xs → ArePages ys → flat_map page_text xs ≡ flat_map page_text ys → xs ≡ ys
pages_same [] [] first next is = refl
pages_same [] (y ∷ ys) first next is = cc
pages_same (x ∷ xs) [] first next is = cc
pages_same (x ∷ xs) (y ∷ ys) (vpn, long, more) (other_vpn, as_long, others) is =
    let both = page_same x y (flat_map page_text xs) (flat_map page_text ys) vpn other_vpn long as_long is in
    ap (λ p. p ∷ xs) both.0 ∙ ap (λ ps. y ∷ ps) (pages_same xs ys more others both.1)

-- the registers of a transfer
words_length : (words : List ℕ) → length (flat_map word_bytes words) ≡ 4 * length words
words_length [] = refl
words_length (word ∷ words) = omega (arith, length-append (word_bytes word) (flat_map word_bytes words), words_length words)

registers_same : (r t : Registers) → AreRegistersFit r → AreRegistersFit t → transfer_text r ≡ transfer_text t → r ≡ t
registers_same r t first next is =
    let long : length (flat_map word_bytes r.regs) ≡ length (flat_map word_bytes t.regs) = omega (arith, words_length r.regs, words_length t.regs, first.count, next.count) in
    let general = halves (flat_map word_bytes r.regs) (flat_map word_bytes t.regs) (word_bytes r.hi ++ word_bytes r.lo) (word_bytes t.hi ++ word_bytes t.lo) long (sym (append_assoc (flat_map word_bytes r.regs) (word_bytes r.hi) (word_bytes r.lo)) ∙ is ∙ append_assoc (flat_map word_bytes t.regs) (word_bytes t.hi) (word_bytes t.lo)) in
    let high = words_same r.hi t.hi (word_bytes r.lo) (word_bytes t.lo) first.hi next.hi general.1 in
    let regs = all_words_same r.regs t.regs first.regs next.regs general.0 in
    λ k. record { regs = regs k; hi = high.0 k; lo = word_same r.lo t.lo first.lo next.lo high.1 k }

kind_same : (a b : TransferKind) → transfer_number a ≡ transfer_number b → a ≡ b
kind_same Asynchronous Asynchronous is = refl
kind_same Synchronous Synchronous is = refl
kind_same Asynchronous Synchronous is = absurd (omega (arith, is))
kind_same Synchronous Asynchronous is = absurd (omega (arith, is))

version_same : (a b : Version) → version_number a ≡ version_number b → a ≡ b
version_same One One is = refl
version_same Two Two is = refl
version_same One Two is = absurd (omega (arith, is))
version_same Two One is = absurd (omega (arith, is))

-- The verdict, by its code: what a code names, and the verdict that has it
abbrev code_named : ℕ → Code
code_named n =
    if n == 1 then code.NoPage else if n == 2 then code.Taken else if n == 3 then code.NoneFree else
    if n == 4 then code.NotOwner else if n == 5 then code.NoRight else if n == 6 then code.BadVpn else
    if n == 7 then code.Guaranteed else if n == 8 then code.NoEnv else if n == 9 then code.NotAccepted else
    if n == 10 then code.NoSlice else if n == 11 then code.SlotTaken else if n == 12 then code.NotHolder else
    if n == 13 then code.BadFilter else if n == 14 then code.Overlap else if n == 15 then code.NoFilter else
    if n == 16 then code.BadHandler else if n == 17 then code.LineTaken else if n == 18 then code.ConsoleFull else
    if n == 19 then code.Full else if n == 20 then code.BadCall else code.BadPointer

abbrev verdict_named : ℕ → ℕ → Verdict
verdict_named n value = if n == 0 then Grant value else if n == 22 then Again value else Refuse (code_named n) value

verdict_read : (v : Verdict) → verdict_named (verdict_code v) (verdict_value v) ≡ v
verdict_read (Refuse why value) = refused why
  where
    refused : (why : Code) → verdict_named (code_number why) value ≡ Refuse why value
    refused code.NoPage = refl
    refused code.Taken = refl
    refused code.NoneFree = refl
    refused code.NotOwner = refl
    refused code.NoRight = refl
    refused code.BadVpn = refl
    refused code.Guaranteed = refl
    refused code.NoEnv = refl
    refused code.NotAccepted = refl
    refused code.NoSlice = refl
    refused code.SlotTaken = refl
    refused code.NotHolder = refl
    refused code.BadFilter = refl
    refused code.Overlap = refl
    refused code.NoFilter = refl
    refused code.BadHandler = refl
    refused code.LineTaken = refl
    refused code.ConsoleFull = refl
    refused code.Full = refl
    refused code.BadCall = refl
    refused code.BadPointer = refl
verdict_read (Again who) = refl
verdict_read (Grant value) = refl

backup_named : ℕ → Option ℕ
backup_named n = if n == any then None else Some n

backup_read : (backup : Option ℕ) → (backup ≡ Some any → ⊥) → backup_named (unwrap_or backup any) ≡ backup
unfolding backup_named
backup_read None some = refl
backup_read (Some n) some = cond_both (n == any) None (Some n) (λ (o : Option ℕ). o ≡ Some n) (λ same. absurd (some (ap (λ m. Some m) (eqb-true n any same)))) (λ other. refl)

mode_read : (writable : Bool) → (mode_number writable == 1) ≡ writable
mode_read true = refl
mode_read false = refl

-- An item but a record or a transfer is read of its view.
abbrev is_plain : ItemKind → Bool
is_plain kind.Boot = false
is_plain kind.Transfer = false
is_plain other = true

item_by : ItemKind → ℕ → ℕ → List ℕ → Item
item_by kind.Boot a b bytes = Step
item_by kind.Step a b bytes = Step
item_by kind.Start a b bytes = Start
item_by kind.End a b bytes = End
item_by kind.Transfer a b bytes = Step
item_by kind.Killed a b bytes = Killed
item_by kind.Answer a b bytes = Answer (verdict_named a b)
item_by kind.Gained a b bytes = Gained a (b == 1) bytes
item_by kind.Lost a b bytes = Lost a
item_by kind.Left a b bytes = Left a b bytes
item_by kind.Packet a b bytes = Packet a bytes
item_by kind.Line a b bytes = Line a
item_by kind.Asked a b bytes = Asked a b
item_by kind.Taken a b bytes = Taken a (backup_named b)

abbrev item_of : ItemSeen → Item
item_of s = item_by s.kind s.a s.b s.bytes

plain_read : (x : Item) → IsFit x → is_plain (item_seen x).kind ≡ true → item_of (item_seen x) ≡ x
unfolding item_by
plain_read (Boot version number name entry accept kept) fit plain = cc
plain_read Step fit plain = refl
plain_read Start fit plain = refl
plain_read End fit plain = refl
plain_read (Transfer from how registers) fit plain = cc
plain_read Killed fit plain = refl
plain_read (Answer v) fit plain = ap (λ w. Answer w) (verdict_read v)
plain_read (Gained page writable bytes) fit plain = ap (λ w. Gained page w bytes) (mode_read writable)
plain_read (Lost page) fit plain = refl
plain_read (Left page offset bytes) fit plain = refl
plain_read (Packet claim packet) fit plain = refl
plain_read (Line line) fit plain = refl
plain_read (Asked outstanding deadline) fit plain = refl
plain_read (Taken page backup) fit plain = ap (λ o. Taken page o) (backup_read backup fit)

-- the bytes of two records, and of two transfers, tell all of them
boots_alike : (v w : Version) (n m : ℕ) (name other : List ℕ) (entry start accept mask : ℕ) (kept pages : List KeptPage) → IsRecordFit name entry accept kept → IsRecordFit other start mask pages
    → version_number v ≡ version_number w → record_text n name entry accept kept ≡ record_text m other start mask pages → Boot v n name entry accept kept ≡ Boot w m other start mask pages
boots_alike v w n m name other entry start accept mask kept pages first next version is =
    let number : n ≡ m = cc in
    let rest : name ++ word_bytes entry ++ word_bytes accept ++ flat_map page_text kept ≡ other ++ word_bytes start ++ word_bytes mask ++ flat_map page_text pages = cc in
    let regrouped = sym (in_four name (word_bytes entry) (word_bytes accept) (flat_map page_text kept)) ∙ rest ∙ in_four other (word_bytes start) (word_bytes mask) (flat_map page_text pages) in
    let names = halves name other _ _ (first.name_whole ∙ sym next.name_whole) regrouped in
    let entries = words_same entry start _ _ first.entry_word next.entry_word names.1 in
    let masks = words_same accept mask _ _ first.accept_word next.accept_word entries.1 in
    let all = pages_same kept pages first.pages next.pages masks.1 in
    λ k. Boot (version_same v w version k) (number k) (names.0 k) (entries.0 k) (masks.0 k) (all k)

boots_seen : (v : Version) (n : ℕ) (name : List ℕ) (entry accept : ℕ) (kept : List KeptPage) (y : Item) → IsRecordFit name entry accept kept → IsFit y
    → item_seen (Boot v n name entry accept kept) ≡ item_seen y → Boot v n name entry accept kept ≡ y
boots_seen v n name entry accept kept (Boot w m other start mask pages) first next same =
    boots_alike v w n m name other entry start accept mask kept pages first next (ap (λ (s : ItemSeen). s.a) same) (ap (λ (s : ItemSeen). s.bytes) same)
boots_seen v n name entry accept kept y first next same = let clash = ap (λ (s : ItemSeen). s.kind) same in cc

transfers_seen : (from : ℕ) (how : TransferKind) (r : Registers) (y : Item) → AreRegistersFit r → IsFit y → item_seen (Transfer from how r) ≡ item_seen y → Transfer from how r ≡ y
transfers_seen from how r (Transfer other kind t) first next same =
    let caller : from ≡ other = ap (λ (s : ItemSeen). s.a) same in
    let hows = kind_same how kind (ap (λ (s : ItemSeen). s.b) same) in
    let registers = registers_same r t first next (ap (λ (s : ItemSeen). s.bytes) same) in
    λ k. Transfer (caller k) (hows k) (registers k)
transfers_seen from how r y first next same = let clash = ap (λ (s : ItemSeen). s.kind) same in cc

-- others are read of one view
plains_seen : (x y : Item) → IsFit x → IsFit y → is_plain (item_seen x).kind ≡ true → item_seen x ≡ item_seen y → x ≡ y
plains_seen x y first next plain same =
    sym (plain_read x first plain) ∙ ap item_of same ∙ plain_read y next (sym (ap (λ (s : ItemSeen). is_plain s.kind) same) ∙ plain)

pub alike : AlikeWhereShownAlike
alike (Boot v n name entry accept kept) y first next same = boots_seen v n name entry accept kept y first next same
alike (Transfer from how r) y first next same = transfers_seen from how r y first next same
alike x y first next same = plains_seen x y first next refl same
