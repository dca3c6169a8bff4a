-- What environments send has 14 to 1,514 bytes, where pages are whole.
use Rattle.std.proofs.lemmas.Grind.{common_steps}
use Rattle.std.proofs.Common.{◌≡◌, ◌≤◌, ◌+◌, ℕ, zero, suc, List, [], ◌∷◌, ◌++◌, length, take, drop, Bool, true, false, ◌&&◌, Option, Some, None, inl, inr, refl, sym, ◌∙◌, ap, subst, arith}
use Rattle.std.specs.Prelude.{◌-◌, ◌/◌, ◌%◌, if◌then◌else◌, is_some, nat_le, nat_lt, slice_get, unwrap_or}
use Rattle.std.specs.List.{list_all}
use Rattle.std.specs.Option.{option_map}
use Rattle.std.proofs.lemmas.Bool.{and_parts, cond_both, le-leb, leb-true}
use Rattle.std.proofs.lemmas.List.{length-drop, length-take}
use Rattle.std.proofs.lemmas.List.Folds.{list_all-append}
use Rattle.aegis_limits.specs.Limits.{page_size}
use Rattle.boot_image.specs.ImageValue.{ImageValue, ProgramValue}
use Rattle.external_event.specs.Limits.{least_frame_size, most_packet_size, most_sent}
use Rattle.handler_rules.specs.Laws.{is_frame}
use Rattle.handler_rules.specs.Memory.{answers_of, bytes_at, page_start}
use Rattle.handler_rules.specs.Running.{HandlerRun, HandlerState, Progress, after_call, ends, after_step, ended_or, entry_state, handler_run, handler_step, most_replies, replied, reply_of, run_on}
use Rattle.handler_rules.specs.declared.outcome.HandlerEnd.{HandlerEnd}
use Rattle.handler_rules.specs.declared.outcome.HandlerEnd.TheVariants.{Fault}
use Rattle.packet_ring.specs.Ring.{is_full, with_packet}
use Rattle.mips_exec.specs.AccessKind.{user_end}
use Rattle.mips_exec.specs.Cpu.{reg}
use Rattle.mips_exec.specs.declared.registers.Cpu.{Cpu}
use Rattle.mips_exec.specs.Step.{Step as MachineStep, Retired, Called, Trapped, step_of, view_of}
use Rattle.world_model.specs.declared.call.Call.{Call}
use Rattle.world_model.specs.declared.call.Deed.{Deed}
use Rattle.world_model.specs.declared.call.Deed.TheVariants.{Own, Unbinds}
use Rattle.world_model.specs.declared.call.OwnDeed.TheVariants.{Sends}
use Rattle.world_model.specs.declared.verdict.Verdict.{Verdict}
use Rattle.world_model.specs.declared.verdict.Verdict.TheVariants.{Refuse, Again, Grant}
use Rattle.env_frames.specs.Transfer.{Registers}
use Rattle.env_frames.specs.declared.post.PostWord.TheVariants as post
use Rattle.world_model.specs.Call.{good_range}
use Rattle.world_model.specs.Item.{Item, Answer, Boot, Packet, absorb, absorb_all, deed_at, own_part, with_answer}
use Rattle.world_model.specs.May.{May}
use Rattle.world_model.specs.Page.{Mapped}
use Rattle.world_model.specs.Post.{counted}
use Rattle.world_model.specs.Rings.{Handles, Loses, Queues, reception_by}
use Rattle.world_model.specs.Solo.{Physical, Ring, Solo, absent, bytes_of, sight}
use Rattle.world_model.specs.Step.{Calls}
use Rattle.world_model.specs.Verdict.{verdict}
use Rattle.world_model.specs.World.{World}
use Rattle.call_verdicts.specs.Granted.{GrantedMay}
use Rattle.run_model.specs.Acting.{Acts}
use Rattle.run_model.specs.Boot.{boot_items, record_items}
use Rattle.run_model.specs.Run.{System, moment}
use Rattle.run_model.proofs.Telling.{call_named, deed_may}
use Rattle.giving_law.specs.Origins.{AddsToSent, SentHasOrigin}
use Rattle.limits_law.proofs.Solos.{IsPlain, each_solo}

-- so many bytes of those that there are
exact : (offset size : ℕ) (bytes : List ℕ) → offset + size ≤ length bytes → length (take size (drop offset bytes)) ≡ size
exact offset size bytes room = omega (arith, length-take size (drop offset bytes), length-drop offset bytes, room)

framed : (bytes : List ℕ) (size : ℕ) → length bytes ≡ size → (nat_le least_frame_size size && nat_le size most_packet_size) ≡ true → is_frame bytes ≡ true
framed bytes size is its = ap (λ (n : ℕ). nat_le least_frame_size n && nat_le n most_packet_size) is ∙ its

abbrev pub AreFrames : List (List ℕ) → Type 0
AreFrames packets = list_all is_frame packets ≡ true

frames_both : (xs ys : List (List ℕ)) → AreFrames xs → AreFrames ys → AreFrames (xs ++ ys)
frames_both xs ys first next = list_all-append is_frame xs ys ∙ ap (λ (b : Bool). b && list_all is_frame ys) first ∙ next

pub frames_taken : (n : ℕ) (packets : List (List ℕ)) → AreFrames packets → AreFrames (take n packets)
frames_taken zero packets all = refl
frames_taken (suc n) [] all = refl
frames_taken (suc n) (packet ∷ packets) all =
    let parts = and_parts (is_frame packet) (list_all is_frame packets) all in rw (parts.0, frames_taken n packets parts.1) refl

frame_more : (packets : List (List ℕ)) (packet : List ℕ) → AreFrames packets → is_frame packet ≡ true → AreFrames (packets ++ packet ∷ [])
frame_more packets packet all its = frames_both packets (packet ∷ []) all (rw its refl)

-- ---- handlers

at_size : (start address size : ℕ) (memory bytes : List ℕ) → bytes_at start memory address size ≡ Some bytes → length bytes ≡ size
at_size start address size memory bytes is = by_test (nat_le start address && nat_le (address + size) (start + length memory)) refl is
  where
    by_test : (b : Bool) → (nat_le start address && nat_le (address + size) (start + length memory)) ≡ b → (if b then Some (take size (drop (address - start) memory)) else None) ≡ Some bytes → length bytes ≡ size
    by_test true its some =
        let parts = and_parts (nat_le start address) (nat_le (address + size) (start + length memory)) its in
        let same : take size (drop (address - start) memory) ≡ bytes = cc in
        ap length (sym same) ∙ exact (address - start) size memory (omega (arith, leb-true start address parts.0, leb-true (address + size) (start + length memory) parts.1))
    by_test false its some = cc

reply_frame : (cpu : Cpu) (page reply : List ℕ) → reply_of cpu page ≡ Some reply → is_frame reply ≡ true
reply_frame cpu page reply is = by_test (nat_le least_frame_size (reg cpu 5) && nat_le (reg cpu 5) most_packet_size) refl is
  where
    by_test : (b : Bool) → (nat_le least_frame_size (reg cpu 5) && nat_le (reg cpu 5) most_packet_size) ≡ b → (if b then bytes_at page_start page (reg cpu 4) (reg cpu 5) else None) ≡ Some reply → is_frame reply ≡ true
    by_test true its some = framed reply (reg cpu 5) (at_size page_start (reg cpu 4) (reg cpu 5) page reply some) its
    by_test false its some = cc

call_frames : (state : HandlerState) → AreFrames state.replies → AreFrames (after_call state).state.replies
call_frames state was =
    cond_both (nat_lt (length state.replies) most_replies) (replied state (reply_of state.cpu state.page)) (ends Fault state) (λ (p : Progress). AreFrames p.state.replies) (λ room. by_reply (reply_of state.cpu state.page) refl) (λ full. was)
  where
    by_reply : (o : Option (List ℕ)) → reply_of state.cpu state.page ≡ o → AreFrames (replied state o).state.replies
    by_reply None is = was
    by_reply (Some reply) is = frame_more state.replies reply was (reply_frame state.cpu state.page reply is)

step_frames : (state : HandlerState) (step : MachineStep) → AreFrames state.replies → AreFrames (after_step state step).state.replies
step_frames state (Retired cpu write) was = was
step_frames state Called was = call_frames state was
step_frames state (Trapped exc) was = was

run_frames : (n : ℕ) (words packet : List ℕ) (state : HandlerState) → AreFrames state.replies → AreFrames (run_on n words packet state).replies
run_frames zero words packet state was = was
run_frames (suc n) words packet state was =
    let progress = handler_step words packet state in
    let next = step_frames state (step_of state.cpu (view_of (answers_of words packet state.page) state.cpu)) was in
    by_end progress.end progress.state next (run_on n words packet progress.state) (run_frames n words packet progress.state next)
  where
    by_end : (end : Option HandlerEnd) (state : HandlerState) → AreFrames state.replies → (rest : HandlerRun) → AreFrames rest.replies → AreFrames (ended_or end state rest).replies
    by_end None state was rest next = next
    by_end (Some end) state was rest next = was

handled_frames : (words packet : List ℕ) (id : ℕ) (page : List ℕ) → AreFrames (handler_run words packet id page).replies
unfolding handler_run
handled_frames words packet id page = run_frames (length words) words packet (entry_state packet id page) refl

received_frames : (handler : Option (List ℕ)) (r : Ring) (packet page left : List ℕ) (replies : List (List ℕ)) → reception_by handler r packet page ≡ Handles left replies → AreFrames replies
received_frames None r packet page left replies is = absurd (queued (is_full page r.next) is)
  where
    queued : (full : Bool) → (if full then Loses else Queues (with_packet page r.next packet)) ≡ Handles left replies → ⊥
    queued true is = cc
    queued false is = cc
received_frames (Some words) r packet page left replies is =
    let run = handler_run words packet r.claim page in
    let same : run.replies ≡ replies = cc in
    subst AreFrames same (handled_frames words packet r.claim page)

-- ---- items

abbrev pub SendsFrames : Solo → Type 0
SendsFrames s = AreFrames s.sent

abbrev AnyRegisters : Registers → Type 0
AnyRegisters registers = Unit {0}

plain_frames : SentHasOrigin → (s : Solo) (item : Item) → IsPlain AnyRegisters item → SendsFrames s → SendsFrames (absorb s item)
plain_frames origin s item plain was = elim (origin s item) [
  | inl same ↦ subst AreFrames (sym same) was
  | inr adds ↦ by_item item plain adds
]
  where
    by_item : (item : Item) → IsPlain AnyRegisters item → AddsToSent s (absorb s item) item → SendsFrames (absorb s item)
    by_item (Boot version number name entry accept kept) plain adds = absurd plain
    by_item (Answer verdict) plain adds = absurd plain
    by_item (Packet claim packet) plain adds =
        subst AreFrames (sym adds.has)
        (frames_taken most_sent (s.sent ++ adds.replies)
        (frames_both s.sent adds.replies was (received_frames adds.ring.handler adds.ring packet (bytes_of (counted post.Packets s) (Physical adds.ring.page)) adds.page adds.replies adds.handled)))
    by_item item plain adds = absurd adds

-- ---- calls

-- all pages that an environment sees are whole
abbrev pub SeesWhole : Solo → Type 0
SeesWhole s = (vpn : ℕ) (m : Mapped) → sight s vpn ≡ Some m → length m.bytes ≡ page_size

range_frame : (look : ℕ → Option Mapped) (address size : ℕ) → ((vpn : ℕ) (m : Mapped) → look vpn ≡ Some m → length m.bytes ≡ page_size) → is_some (good_range look address size) ≡ true
    → (nat_le least_frame_size size && nat_le size most_packet_size) ≡ true → is_frame (unwrap_or (good_range look address size) []) ≡ true
range_frame look address size whole good its = by_test (nat_lt address user_end && nat_le (address % page_size + size) page_size) refl good
  where
    by_look : nat_le (address % page_size + size) page_size ≡ true → (o : Option Mapped) → look (address / page_size) ≡ o → is_some (option_map (λ (m : Mapped). take size (drop (address % page_size) m.bytes)) o) ≡ true
        → is_frame (unwrap_or (option_map (λ (m : Mapped). take size (drop (address % page_size) m.bytes)) o) []) ≡ true
    by_look room None is some = cc
    by_look room (Some m) is some =
        framed (take size (drop (address % page_size) m.bytes)) size
        (exact (address % page_size) size m.bytes (omega (arith, whole (address / page_size) m is, leb-true (address % page_size + size) page_size room))) its

    by_test : (b : Bool) → (nat_lt address user_end && nat_le (address % page_size + size) page_size) ≡ b
        → is_some (if b then option_map (λ (m : Mapped). take size (drop (address % page_size) m.bytes)) (look (address / page_size)) else None) ≡ true
        → is_frame (unwrap_or (if b then option_map (λ (m : Mapped). take size (drop (address % page_size) m.bytes)) (look (address / page_size)) else None) []) ≡ true
    by_test true room some = by_look (and_parts (nat_lt address user_end) (nat_le (address % page_size + size) page_size) room).1 (look (address / page_size)) refl some
    by_test false room some = cc

deed_frames : (w : World) (e : ℕ) (d : Deed) → May w e d → SeesWhole (w.solos e) → SendsFrames (w.solos e) → SendsFrames (own_part d (w.solos e))
deed_frames w e (Own (Sends address size)) may whole was =
    let s = w.solos e in
    let its : (nat_le least_frame_size size && nat_le size most_packet_size) ≡ true = ap (λ (b : Bool). b && nat_le size most_packet_size) (le-leb least_frame_size size may.least) ∙ le-leb size most_packet_size may.most in
    frame_more s.sent (unwrap_or (good_range (sight s) address size) []) was (range_frame (sight s) address size whole may.good its)
deed_frames w e (Unbinds vpn) may whole was = grind (arith, common_steps)
deed_frames w e d may whole was = was

abbrev pub AllSeeWhole : World → Type 0
AllSeeWhole w = (e : ℕ) → SeesWhole (w.solos e)

answered_frames : GrantedMay → (w : World) (e : ℕ) (c : Option Call) → Acts w e (Calls c) → AllSeeWhole w → SendsFrames (w.solos e) → SendsFrames (with_answer (verdict w e c) (w.solos e))
answered_frames granted w e c acts whole was = by_verdict (verdict w e c) refl
  where
    by_verdict : (v : Verdict) → verdict w e c ≡ v → SendsFrames (with_answer v (w.solos e))
    by_verdict (Refuse code value) is = was
    by_verdict (Again who) is = was
    by_verdict (Grant value) is = deed_frames w e (deed_at (w.solos e) value) (deed_may granted w e c (call_named w e c acts.comes) value is) (whole e) was

boot_frames : (image : ImageValue) (e : ℕ) → SendsFrames (absorb_all (absent e) (boot_items image e))
boot_frames image e = by_program (slice_get image.programs e)
  where
    by_program : (o : Option ProgramValue) → SendsFrames (absorb_all (absent e) (record_items image.version e o))
    by_program None = refl
    by_program (Some p) = refl

pub each_frames : GrantedMay → SentHasOrigin → (system : System) → ((t k : ℕ) → AllSeeWhole (moment system t k)) → (t k e : ℕ) → SendsFrames ((moment system t k).solos e)
each_frames granted origin system whole = each_solo SendsFrames AnyRegisters (λ s its. tt) (plain_frames origin) AllSeeWhole (answered_frames granted) system (boot_frames system.image) whole
