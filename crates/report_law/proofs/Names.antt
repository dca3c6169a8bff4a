-- The names of environments are those of the image, and so no byte of them ends a line.
use Rattle.std.proofs.lemmas.Grind.{common_steps}
use Rattle.std.proofs.Common.{arith, refl, sym, ◌∙◌, subst, ◌≡◌, ◌≤◌, inl, inr, ℕ, zero, suc, List, [], ◌∷◌, true, ◌&&◌, Option, None, Some}
use Rattle.std.specs.Prelude.{nat_lt, length, slice_get}
use Rattle.std.specs.List.{AllByRecursion, list_all}
use Rattle.std.proofs.lemmas.Bool.{and_parts, cond_both, eqb-true, leb-true, or_cases}
use Rattle.boot_image.specs.Accepted.{IsAccepted, IsFitting}
use Rattle.boot_image.specs.ImageFaults.{is_name, is_name_byte}
use Rattle.boot_image.specs.ImageValue.{ImageValue, ProgramValue, name_text}
use Rattle.env_frames.specs.declared.post.PostWord.TheVariants as post
use Rattle.env_frames.specs.Post.{most_records, record_bytes, record_offset}
use Rattle.external_event.specs.declared.event.Occurrence.{Occurrence}
use Rattle.external_event.specs.declared.event.Occurrence.TheVariants as outside
use Rattle.mips_exec.specs.Step.{cpu_after}
use Rattle.revocation_book.specs.declared.revocation.Taking.{Taking}
use Rattle.world_model.specs.declared.call.Deed.{Deed}
use Rattle.world_model.specs.declared.call.Deed.TheVariants.{Unbinds}
use Rattle.world_model.specs.declared.verdict.Verdict.TheVariants.{Refuse, Again, Grant}
use Rattle.world_model.specs.Item.{Item, Boot, Step, Start, Answer, Packet, Taken, absorb, absorb_all, absorbed, deed_at, own_part}
use Rattle.world_model.specs.Post.{counted, post_word}
use Rattle.world_model.specs.Repossession.{copied, recorded}
use Rattle.world_model.specs.Rings.{Reception, Loses, Queues, Handles, after_reception, after_packet_in, reception, ring_of}
use Rattle.world_model.specs.Solo.{Solo, Ring, absent, is_dead}
use Rattle.world_model.specs.Step.{Act, Dies, act_of, acted, step_alone}
use Rattle.world_model.specs.Upcalls.{with_context}
use Rattle.world_model.specs.World.{World}
use Rattle.run_model.specs.Licensed.{AtBoot, FeedIsLicensed, Licensed, LicensedBehind, LicensedIn}
use Rattle.run_model.specs.Run.{IsFoldOfFeed, System, feed, world_after}
use Rattle.report_law.proofs.Bytes.{AtLeast, one}

abbrev IsPlain : List ℕ → Type 0
IsPlain name = AtLeast 32 (name_text name)

abbrev IsNamed : Solo → Type 0
IsNamed s = IsPlain s.name

-- a record that is given has such a name
abbrev Names : Item → Type 0
Names (Boot version number name entry accept kept) = IsPlain name
Names item = Unit {0}

own_named : (d : Deed) (s : Solo) → IsNamed s → IsNamed (own_part d s)
own_named (Unbinds vpn) s are = grind (arith, common_steps)
own_named d s are = are

act_named : (act : Act) (s : Solo) → IsNamed s → IsNamed (acted act s)
act_named (Dies cause) s are = are
act_named act s are = are

reception_named : (r : Ring) (what : Reception) (s : Solo) → IsNamed s → IsNamed (after_reception r what s)
reception_named r Loses s are = are
reception_named r (Queues page) s are = are
reception_named r (Handles page replies) s are = are

packet_named : (r : Option Ring) (packet : List ℕ) (s : Solo) → IsNamed s → IsNamed (after_packet_in r packet s)
packet_named None packet s are = are
packet_named (Some r) packet s are = reception_named r (reception s r packet) s are

copied_same : (page : ℕ) (backup : Option ℕ) (s : Solo) → (copied page backup s).name ≡ s.name
copied_same page None s = refl
copied_same page (Some backup) s = refl

recorded_same : (n page : ℕ) (backup : Option ℕ) (s : Solo) → (recorded n page backup s).name ≡ s.name
recorded_same n page backup s = cond_both (nat_lt n most_records) (with_context (record_offset n) (record_bytes page backup) s) s (λ t. t.name ≡ s.name) (λ is. refl) (λ is. refl)

item_named : (s : Solo) (item : Item) → Names item → IsNamed s → IsNamed (absorbed s item)
item_named s (Boot version number name entry accept kept) names are = names
item_named s Step names are = act_named (act_of s (step_alone s)) (record s { cpu = cpu_after s.cpu (step_alone s) }) are
item_named s Start names are = grind (arith, common_steps)
item_named s (Answer (Refuse code value)) names are = are
item_named s (Answer (Again who)) names are = are
item_named s (Answer (Grant value)) names are = own_named (deed_at s value) s are
item_named s (Packet claim packet) names are = packet_named (ring_of s.rings claim) packet (counted post.Packets s) are
item_named s (Taken page backup) names are =
    let v = copied page backup s in
    subst IsPlain (sym (recorded_same (post_word post.Takings v) page backup v ∙ copied_same page backup s)) are
item_named s item names are = are

all_named : (items : List Item) (s : Solo) → AllByRecursion Names items → IsNamed s → IsNamed (absorb_all s items)
all_named [] s all are = are
all_named (item ∷ items) s (here, all) are =
    all_named items (absorb s item) all (cond_both (is_dead s.life) s (absorbed s item) IsNamed (λ dead. are) (λ lives. item_named s item here are))

-- a name of an image
byte_high : (b : ℕ) → is_name_byte b ≡ true → 32 ≤ b
byte_high b is = grind (arith, common_steps, or_cases, and_parts, leb-true, eqb-true)

bytes_high : (bs : List ℕ) → list_all is_name_byte bs ≡ true → AtLeast 32 bs
bytes_high [] are = refl
bytes_high (b ∷ bs) are =
    let parts = and_parts (is_name_byte b) (list_all is_name_byte bs) are in
    one 32 b bs (byte_high b parts.0) (bytes_high bs parts.1)

name_plain : (name : List ℕ) → is_name name ≡ true → IsPlain name
unfolding is_name
name_plain name is =
    let first = (and_parts (nat_lt 0 (length (name_text name)) && list_all is_name_byte (name_text name)) _ is).0 in
    bytes_high (name_text name) (and_parts (nat_lt 0 (length (name_text name))) (list_all is_name_byte (name_text name)) first).1

program_at : (programs : List ProgramValue) (e : ℕ) (p : ProgramValue) → AllByRecursion IsFitting programs → slice_get programs e ≡ Some p → IsFitting p
program_at [] e p all is = cc
program_at (x ∷ programs) zero p (here, all) is = let same : x ≡ p = cc in subst IsFitting same here
program_at (x ∷ programs) (suc e) p (here, all) is = program_at programs e p all is

-- a record is given at boot alone
no_boot_behind : (system : System) (t : ℕ) (xs : List Taking) (k : ℕ) (w : World) (e : ℕ) (item : Item) → LicensedBehind system t xs k w e item → Names item
no_boot_behind system t [] zero w e item licence = absurd licence
no_boot_behind system t [] (suc zero) w e (Boot version number name entry accept kept) licence = absurd licence
no_boot_behind system t [] (suc (suc zero)) w e (Boot version number name entry accept kept) licence = absurd licence
no_boot_behind system t [] (suc (suc (suc zero))) w e (Boot version number name entry accept kept) licence = absurd licence
no_boot_behind system t [] (suc (suc (suc (suc k)))) w e item licence = absurd licence
no_boot_behind system t (x ∷ xs) zero w e (Boot version number name entry accept kept) licence = absurd licence
no_boot_behind system t (x ∷ xs) (suc k) w e item licence = no_boot_behind system t xs k w e item licence
no_boot_behind system t xs k w e item licence = tt

no_boot_in : (system : System) (t : ℕ) (happens : List Occurrence) (xs : List Taking) (k : ℕ) (w : World) (e : ℕ) (item : Item) → LicensedIn system t happens xs k w e item → Names item
no_boot_in system t [] xs k w e item licence = no_boot_behind system t xs k w e item licence
no_boot_in system t (outside.Packet packet ∷ happens) xs zero w e (Boot version number name entry accept kept) licence = absurd licence
no_boot_in system t (outside.Line line ∷ happens) xs zero w e (Boot version number name entry accept kept) licence = absurd licence
no_boot_in system t (outside.Revoke env count grace ∷ happens) xs zero w e (Boot version number name entry accept kept) licence = absurd licence
no_boot_in system t (what ∷ happens) xs (suc k) w e item licence = no_boot_in system t happens xs k w e item licence
no_boot_in system t (what ∷ happens) xs zero w e item licence = tt

at_boot : (image : ImageValue) → IsAccepted image → (e : ℕ) (item : Item) → AtBoot image e item → Names item
at_boot image accepted e (Boot version number name entry accept kept) licence =
    let fitting = program_at image.programs e licence.program accepted.programs licence.there in
    subst IsPlain (sym licence.name_is) (name_plain licence.program.name fitting.name)
at_boot image accepted e item licence = absurd licence

licensed_names : (system : System) → IsAccepted system.image → (t e n : ℕ) (item : Item) → Licensed system t e n item → Names item
licensed_names system accepted t e n item (inl given) = at_boot system.image accepted e item given.licence
licensed_names system accepted t e n item (inr given) = no_boot_in system given.tick _ _ given.phase _ e item given.licence

all_at : {X : Type 0} (P : X → Type 0) (xs : List X) → ((n : ℕ) (x : X) → slice_get xs n ≡ Some x → P x) → AllByRecursion P xs
all_at P [] each = tt
all_at P (x ∷ xs) each = (each 0 x refl, all_at P xs (λ n y is. each (suc n) y is))

pub run_named : IsFoldOfFeed → FeedIsLicensed → (system : System) → IsAccepted system.image → (t e : ℕ) → AtLeast 32 (name_text ((world_after system t).solos e).name)
run_named fold licensed system accepted t e =
    subst IsNamed (sym (fold system t e))
    (all_named (feed system e t) (absent e) (all_at Names (feed system e t) (λ n item is. licensed_names system accepted t e n item (licensed system t e n item is))) refl)
