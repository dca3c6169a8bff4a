-- Item by item, what changes the console, the sent packets and the registers.
use Rattle.std.proofs.Common.{◌≡◌, ℕ, List, Option, Some, None, inl, inr, is_some, refl, ◌∙◌, ap}
use Rattle.std.specs.Prelude.{◌⊎◌, nat_lt, ◌==◌}
use Rattle.bind_book.specs.Stripe.{binding_at, row_of}
use Rattle.env_frames.specs.Context.{start_area, start_bytes, resumed_cpu}
use Rattle.env_frames.specs.Post.{most_records, record_bytes, record_offset}
use Rattle.env_frames.specs.declared.post.PostWord.TheVariants as post
use Rattle.mips_exec.specs.Cpu.{rested}
use Rattle.mips_exec.specs.Step.{cpu_after}
use Rattle.world_model.specs.declared.call.Deed.{Deed}
use Rattle.world_model.specs.declared.call.Deed.TheVariants.{Own, Unbinds}
use Rattle.world_model.specs.declared.call.OwnDeed.{OwnDeed}
use Rattle.world_model.specs.declared.call.OwnDeed.TheVariants as own
use Rattle.world_model.specs.declared.verdict.Verdict.{Verdict}
use Rattle.world_model.specs.declared.verdict.Verdict.TheVariants.{Refuse, Again, Grant}
use Rattle.world_model.specs.Holding.{with_binds}
use Rattle.world_model.specs.Item.{Item, Boot, Step, Start, End, Transfer, Killed, Answer, Gained, Lost, Left, Packet, Line, Asked, Taken, absorbed, deed_at, own_part, with_answer}
use Rattle.world_model.specs.Post.{counted, post_word}
use Rattle.world_model.specs.Repossession.{copied}
use Rattle.world_model.specs.Rings.{Handles, Loses, Queues, Reception, after_packet_in, after_reception, reception, ring_of}
use Rattle.world_model.specs.Solo.{Ring, Solo, is_dead}
use Rattle.world_model.specs.Step.{Act, Nothing, Stores, Calls, Raises, Dies, act_of, acted, step_alone}
use Rattle.world_model.specs.Table.{set_at}
use Rattle.world_model.specs.Upcalls.{with_context}
use Rattle.giving_law.specs.Origins.{AddsToConsole, AddsToSent, ConsoleHasOrigin, Moves, RegistersHaveOrigin, Replies, SentHasOrigin, SendsOwn, WritesOwn}
use Rattle.giving_law.proofs.Rising.{either}

-- what an environment has written and sent
pub record Output : Type 0 where
  pub console : List ℕ
  pub sent : List (List ℕ)

abbrev output : Solo → Output
output s = record { console = s.console; sent = s.sent }

abbrev Same : Solo → Solo → Type 0
Same s t = output t ≡ output s

acted_same : (act : Act) (s : Solo) → Same s (acted act s)
acted_same Nothing s = refl
acted_same (Stores x) s = refl
acted_same (Calls c) s = refl
acted_same (Raises exc) s = refl
acted_same (Dies cause) s = refl

start_same : (s : Solo) → Same s (absorbed s Start)
start_same s =
    either (Same s) (s.handlers.start == 0) (record s { cpu = rested s.cpu }) (record (with_context start_area (start_bytes s.cpu) s) { cpu = resumed_cpu s.handlers.start s.cpu }) refl refl

copied_same : (page : ℕ) (backup : Option ℕ) (s : Solo) → Same s (copied page backup s)
copied_same page None s = refl
copied_same page (Some b) s = refl

taken_same : (page : ℕ) (backup : Option ℕ) (s : Solo) → Same s (absorbed s (Taken page backup))
taken_same page backup s =
    let t = copied page backup s in
    let n = post_word post.Takings t in
    either (Same t) (nat_lt n most_records) (with_context (record_offset n) (record_bytes page backup) t) t refl refl ∙ copied_same page backup s

-- what a granted call adds
abbrev Grants : Solo → Deed → Solo → Type 0
Grants s d t = (t.console ≡ s.console) ⊎ WritesOwn s t d

abbrev GrantsSent : Solo → Deed → Solo → Type 0
GrantsSent s d t = (t.sent ≡ s.sent) ⊎ SendsOwn s t d

own_console : (s : Solo) (d : OwnDeed) → Grants s (Own d) (own_part (Own d) s)
own_console s (own.Puts address size) = inr (record { address = address; size = size; puts = refl; has = refl })
own_console s (own.Sends address size) = inl refl
own_console s (own.Handles kind address) = inl refl
own_console s (own.Accepts mask) = inl refl

own_sent : (s : Solo) (d : OwnDeed) → GrantsSent s (Own d) (own_part (Own d) s)
own_sent s (own.Sends address size) = inr (record { address = address; size = size; sends = refl; has = refl })
own_sent s (own.Puts address size) = inl refl
own_sent s (own.Handles kind address) = inl refl
own_sent s (own.Accepts mask) = inl refl

unbound_same : (s : Solo) (vpn : ℕ) → Same s (own_part (Unbinds vpn) s)
unbound_same s vpn = either (Same s) (is_some (binding_at s.version s.binds vpn)) (with_binds (set_at (row_of s.version vpn) None s.binds) s) s refl refl

deed_console : (s : Solo) (d : Deed) → Grants s d (own_part d s)
deed_console s (Own d) = own_console s d
deed_console s (Unbinds vpn) = inl (ap (λ (o : Output). o.console) (unbound_same s vpn))
deed_console s d = inl refl

deed_sent : (s : Solo) (d : Deed) → GrantsSent s d (own_part d s)
deed_sent s (Own d) = own_sent s d
deed_sent s (Unbinds vpn) = inl (ap (λ (o : Output). o.sent) (unbound_same s vpn))
deed_sent s d = inl refl

-- the answer's registers are beside the console and the packets
answer_console : (s : Solo) (v : Verdict) → (let t = with_answer v s in (t.console ≡ s.console) ⊎ AddsToConsole s t (Answer v))
answer_console s (Refuse code value) = inl refl
answer_console s (Again who) = inl refl
answer_console s (Grant value) = by_part (deed_console s (deed_at s value))
  where
    by_part : Grants s (deed_at s value) (own_part (deed_at s value) s) → Grants s (deed_at s value) (with_answer (Grant value) s)
    by_part (inl same) = inl same
    by_part (inr its) = inr (record { address = its.address; size = its.size; puts = its.puts; has = its.has })

answer_sent : (s : Solo) (v : Verdict) → (let t = with_answer v s in (t.sent ≡ s.sent) ⊎ AddsToSent s t (Answer v))
answer_sent s (Refuse code value) = inl refl
answer_sent s (Again who) = inl refl
answer_sent s (Grant value) = by_part (deed_sent s (deed_at s value))
  where
    by_part : GrantsSent s (deed_at s value) (own_part (deed_at s value) s) → GrantsSent s (deed_at s value) (with_answer (Grant value) s)
    by_part (inl same) = inl same
    by_part (inr its) = inr (record { address = its.address; size = its.size; sends = its.sends; has = its.has })

-- a packet
reception_console : (r : Ring) (x : Reception) (s : Solo) → (after_reception r x s).console ≡ s.console
reception_console r Loses s = refl
reception_console r (Queues page) s = refl
reception_console r (Handles page replies) s = refl

packet_console : (o : Option Ring) (packet : List ℕ) (s : Solo) → (after_packet_in o packet s).console ≡ s.console
packet_console None packet s = refl
packet_console (Some r) packet s = reception_console r (reception s r packet) s

packet_sent : (s : Solo) (claim : ℕ) (packet : List ℕ) → (let t = absorbed s (Packet claim packet) in (t.sent ≡ s.sent) ⊎ Replies s t claim packet)
packet_sent s claim packet = by_ring (ring_of s.rings claim) refl
  where
    u : Solo
    u = counted post.Packets s

    by_reception : (r : Ring) → ring_of s.rings claim ≡ Some r → (x : Reception) → reception u r packet ≡ x
        → (let t = after_reception r x u in (t.sent ≡ s.sent) ⊎ Replies s t claim packet)
    by_reception r its Loses is = inl refl
    by_reception r its (Queues page) is = inl refl
    by_reception r its (Handles page replies) is = inr (record { ring = r; its = its; page = page; replies = replies; handled = is; has = refl })

    by_ring : (o : Option Ring) → ring_of s.rings claim ≡ o → (let t = after_packet_in o packet u in (t.sent ≡ s.sent) ⊎ Replies s t claim packet)
    by_ring None its = inl refl
    by_ring (Some r) its = by_reception r its (reception u r packet) refl

-- Item by item.
console_item : (s : Solo) (item : Item) → (let t = absorbed s item in (t.console ≡ s.console) ⊎ AddsToConsole s t item)
console_item s (Boot version number name entry accept kept) = inr refl
console_item s Step = inl (ap (λ (o : Output). o.console) (acted_same (act_of s (step_alone s)) (record s { cpu = cpu_after s.cpu (step_alone s) })))
console_item s Start = inl (ap (λ (o : Output). o.console) (start_same s))
console_item s End = inl refl
console_item s (Transfer from kind registers) = inl refl
console_item s Killed = inl refl
console_item s (Answer verdict) = answer_console s verdict
console_item s (Gained page writable bytes) = inl refl
console_item s (Lost page) = inl refl
console_item s (Left page offset bytes) = inl refl
console_item s (Packet claim packet) = inl (packet_console (ring_of s.rings claim) packet (counted post.Packets s))
console_item s (Line line) = inl refl
console_item s (Asked outstanding deadline) = inl refl
console_item s (Taken page backup) = inl (ap (λ (o : Output). o.console) (taken_same page backup s))

pub console_has_origin : ConsoleHasOrigin
console_has_origin s item =
    either (λ (t : Solo). (t.console ≡ s.console) ⊎ AddsToConsole s t item) (is_dead s.life) s (absorbed s item) (inl refl) (console_item s item)

sent_item : (s : Solo) (item : Item) → (let t = absorbed s item in (t.sent ≡ s.sent) ⊎ AddsToSent s t item)
sent_item s (Boot version number name entry accept kept) = inr refl
sent_item s Step = inl (ap (λ (o : Output). o.sent) (acted_same (act_of s (step_alone s)) (record s { cpu = cpu_after s.cpu (step_alone s) })))
sent_item s Start = inl (ap (λ (o : Output). o.sent) (start_same s))
sent_item s End = inl refl
sent_item s (Transfer from kind registers) = inl refl
sent_item s Killed = inl refl
sent_item s (Answer verdict) = answer_sent s verdict
sent_item s (Gained page writable bytes) = inl refl
sent_item s (Lost page) = inl refl
sent_item s (Left page offset bytes) = inl refl
sent_item s (Packet claim packet) = packet_sent s claim packet
sent_item s (Line line) = inl refl
sent_item s (Asked outstanding deadline) = inl refl
sent_item s (Taken page backup) = inl (ap (λ (o : Output). o.sent) (taken_same page backup s))

pub sent_has_origin : SentHasOrigin
sent_has_origin s item = either (λ (t : Solo). (t.sent ≡ s.sent) ⊎ AddsToSent s t item) (is_dead s.life) s (absorbed s item) (inl refl) (sent_item s item)

-- registers
reception_cpu : (r : Ring) (x : Reception) (s : Solo) → (after_reception r x s).cpu ≡ s.cpu
reception_cpu r Loses s = refl
reception_cpu r (Queues page) s = refl
reception_cpu r (Handles page replies) s = refl

packet_cpu : (o : Option Ring) (packet : List ℕ) (s : Solo) → (after_packet_in o packet s).cpu ≡ s.cpu
packet_cpu None packet s = refl
packet_cpu (Some r) packet s = reception_cpu r (reception s r packet) s

copied_cpu : (page : ℕ) (backup : Option ℕ) (s : Solo) → (copied page backup s).cpu ≡ s.cpu
copied_cpu page None s = refl
copied_cpu page (Some b) s = refl

taken_cpu : (page : ℕ) (backup : Option ℕ) (s : Solo) → (absorbed s (Taken page backup)).cpu ≡ s.cpu
taken_cpu page backup s =
    let t = copied page backup s in
    let n = post_word post.Takings t in
    either (λ (u : Solo). u.cpu ≡ t.cpu) (nat_lt n most_records) (with_context (record_offset n) (record_bytes page backup) t) t refl refl ∙ copied_cpu page backup s

registers_item : (s : Solo) (item : Item) → ((absorbed s item).cpu ≡ s.cpu) ⊎ Moves item
registers_item s (Gained page writable bytes) = inl refl
registers_item s (Lost page) = inl refl
registers_item s (Left page offset bytes) = inl refl
registers_item s (Packet claim packet) = inl (packet_cpu (ring_of s.rings claim) packet (counted post.Packets s))
registers_item s (Line line) = inl refl
registers_item s (Asked outstanding deadline) = inl refl
registers_item s (Taken page backup) = inl (taken_cpu page backup s)
registers_item s item = inr tt

pub registers_have_origin : RegistersHaveOrigin
registers_have_origin s item = either (λ (t : Solo). (t.cpu ≡ s.cpu) ⊎ Moves item) (is_dead s.life) s (absorbed s item) (inl refl) (registers_item s item)
