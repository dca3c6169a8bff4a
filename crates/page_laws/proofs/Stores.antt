-- A store goes to where its VPN leads, and only where that may be stored to.
use Rattle.std.proofs.Common.{arith, ◌≡◌, ℕ, ◌+◌, ◌/◌, ◌%◌, ◌≤◌, length, Bool, true, false, not, Option, Some, None, Result, Ok, Err, refl, sym, ◌∙◌, ap, subst}
use Rattle.std.proofs.lemmas.Grind.{common_steps}
use Rattle.std.specs.Prelude.{◌==◌, if◌then◌else◌}
use Rattle.std.specs.Option.{option_map, option_or}
use Rattle.std.specs.Int.{w32, to_le_bytes}
use Rattle.std.proofs.lemmas.Bool.{eqb-true}
use Rattle.std.proofs.lemmas.List.{length-take}
use Rattle.aegis_limits.specs.Limits.{page_size}
use Rattle.mips_isa.specs.Encoding.{insn_of}
use Rattle.mips_isa.specs.declared.insn.Insn.{Insn}
use Rattle.mips_exec.specs.declared.registers.Cpu.{Cpu}
use Rattle.mips_exec.specs.declared.reach.Access.{Access}
use Rattle.mips_exec.specs.declared.reach.Access.TheVariants as access
use Rattle.mips_exec.specs.declared.reach.Spot.{Spot}
use Rattle.mips_exec.specs.declared.exception.Exc.{Exc}
use Rattle.mips_exec.specs.declared.exception.ExcCode.TheVariants as code
use Rattle.mips_exec.specs.Exception.{plain}
use Rattle.mips_exec.specs.Access as accesses
use Rattle.mips_exec.specs.Access.{Write, is_aligned, place_of, write_of}
use Rattle.mips_exec.specs.Effect as effects
use Rattle.mips_exec.specs.declared.change.Change.{Change}
use Rattle.mips_exec.specs.Step.{Answers, Step, Retired, Called, Trapped, accessed, answered_if, ended, executed, access_after, decoded, fetched, step_of, view_of, without_value}
use Rattle.bind_book.specs.declared.binding.Binding.{Binding}
use Rattle.bind_book.specs.Stripe.{binding_at}
use Rattle.bind_book.proofs.Rows.{found_in_row}
use Rattle.world_model.specs.declared.life.Cause.TheVariants as cause
use Rattle.mips_exec.specs.declared.access_kind.AccessKind.TheVariants as kind
use Rattle.world_model.specs.Call.{exit_number}
use Rattle.mips_exec.specs.Cpu.{reg}
use Rattle.mips_exec.specs.AccessKind.{raised}
use Rattle.world_model.specs.Page.{KeptPage, Mapped, answers_by, if_served, reach, served}
use Rattle.world_model.specs.Solo.{Solo, Store, Kept, Physical, Place, bound_place, kept_at, leads, mapped, place_at, sight, store_through}
use Rattle.world_model.specs.Step.{Stores, Raises, Dies, act_at_call, act_of, step_alone, store_act}
use Rattle.page_laws.specs.Through.{IsThrough, StoresGoThrough}

-- an instruction that retires writes what its access does
ended_write : (cpu new : Cpu) (change : Change) (write o : Option Write) → ended cpu change write ≡ Retired new o → write ≡ o
ended_write cpu new change write o is = grind (arith, common_steps)

-- what an access stores, where it is aligned, lies in one word
abbrev LiesIn : Option Access → Type 0
LiesIn None = Unit {0}
LiesIn (Some (access.Load spot)) = Unit {0}
LiesIn (Some (access.Store spot value)) = is_aligned spot ≡ true → place_of spot % 4 + spot.width ≤ 4

access_lies : (insn : Insn) (cpu : Cpu) → LiesIn (accesses.access insn cpu)
unfolding accesses.access
access_lies insn cpu = grind (arith, common_steps, eqb-true)

-- memory granted a store of these bytes, which lie in one word
record IsGranted (answers : Answers) (w : Write) : Type 0 where
  width : ℕ
  granted : answers.store w.address width ≡ Ok tt
  lie : w.address % 4 + length w.bytes ≤ 4

-- a step that writes was granted its store
module _ (answers : Answers) (cpu new : Cpu) (w : Write) where
  by_answer : (insn : Insn) (spot : Spot) (value : ℕ) → place_of spot % 4 + spot.width ≤ 4 → (r : Result (Unit {0}) Exc) → answers.store (place_of spot) spot.width ≡ r
      → accessed insn cpu (access.Store spot value) (without_value r) ≡ Retired new (Some w) → IsGranted answers w
  by_answer insn spot value lies (Err exc) is retired = cc
  by_answer insn spot value lies (Ok u) is retired =
      let write : write_of (access.Store spot value) ≡ Some w = ended_write cpu new (effects.effect insn cpu 0) (write_of (access.Store spot value)) (Some w) retired in
      subst (IsGranted answers) (its write) (record { width = spot.width; granted = is; lie = omega (arith, lies, length-take spot.width (to_le_bytes w32 value)) })
    where
      its : Some (record { address = place_of spot; bytes = accesses.low_bytes spot.width value }) ≡ Some w → record { address = place_of spot; bytes = accesses.low_bytes spot.width value } ≡ w
      its same = cc

  by_aligned : (insn : Insn) (spot : Spot) (value : ℕ) → LiesIn (Some (access.Store spot value)) → (t : Bool) → is_aligned spot ≡ t
      → accessed insn cpu (access.Store spot value) (if t then without_value (answers.store (place_of spot) spot.width) else Err (plain code.Ades)) ≡ Retired new (Some w) → IsGranted answers w
  by_aligned insn spot value lies true aligned retired = by_answer insn spot value (lies aligned) (answers.store (place_of spot) spot.width) refl retired
  by_aligned insn spot value lies false aligned retired = cc

  -- a load writes nothing
  by_load : (insn : Insn) (spot : Spot) (r : Result ℕ Exc) → accessed insn cpu (access.Load spot) r ≡ Retired new (Some w) → IsGranted answers w
  by_load insn spot (Ok x) retired = let none : None ≡ Some w = ended_write cpu new (effects.effect insn cpu x) None (Some w) retired in cc
  by_load insn spot (Err exc) retired = cc

  by_access : (insn : Insn) (a : Option Access) → LiesIn a → executed insn cpu a (answered_if answers a) ≡ Retired new (Some w) → IsGranted answers w
  by_access insn a lies retired = grind (arith, common_steps, ended_write, by_load, by_aligned)

  by_fetch : (r : Result ℕ Exc) → decoded cpu r (access_after answers cpu r) ≡ Retired new (Some w) → IsGranted answers w
  by_fetch (Ok word) retired = by_access (insn_of word) (accesses.access (insn_of word) cpu) (access_lies (insn_of word) cpu) retired
  by_fetch (Err exc) retired = cc

  granted_store : step_of cpu (view_of answers cpu) ≡ Retired new (Some w) → IsGranted answers w
  granted_store retired = by_fetch (fetched answers cpu.pc) retired

-- what a store is answered
abbrev answer_to : Result Mapped Exc → Result (Unit {0}) Exc
answer_to r = if_served (λ (m : Mapped). tt) r

-- it is granted where its VPN leads to a page that may be stored to
module _ (look : ℕ → Option Mapped) (address : ℕ) where
  by_writable : (m : Mapped) (t : Bool) → m.writable ≡ t → answer_to (if not t then raised code.Mod address else Ok m) ≡ Ok tt → t ≡ true
  by_writable m true is granted = refl
  by_writable m false is granted = cc

  by_place : (o : Option Mapped) (m : Mapped) → o ≡ Some m → answer_to (served kind.Store address o) ≡ Ok tt → m.writable ≡ true
  by_place None m is granted = cc
  by_place (Some n) m is granted = let same : n ≡ m = cc in ap (λ (x : Mapped). x.writable) (sym same) ∙ by_writable n n.writable refl granted

  granted_writable : (m : Mapped) → look (address / page_size) ≡ Some m → answer_to (reach look kind.Store address) ≡ Ok tt → m.writable ≡ true
  granted_writable m is granted = grind (arith, common_steps, by_place)

-- a store goes to where a VPN leads, which may be stored to, and into one page
record IsLed (s : Solo) (x : Store) : Type 0 where
  vpn : ℕ
  place : Place
  led : leads s vpn ≡ Some place
  key : place.key ≡ x.key
  writable : place.writable ≡ true
  within : x.offset + length x.bytes ≤ page_size

-- what lies in one word lies in one page
word_in_page : (address size : ℕ) → address % 4 + size ≤ 4 → address % page_size + size ≤ page_size
word_in_page address size lies = omega (arith, lies)

module _ (s : Solo) (x : Store) where
  by_led : (new : Cpu) (w : Write) → step_alone s ≡ Retired new (Some w) → (o : Option Place) → leads s (w.address / page_size) ≡ o → store_act (option_map (store_through w) o) ≡ Stores x → IsLed s x
  by_led new w retired None led acts = cc
  by_led new w retired (Some place) led acts =
      let store : store_through w place ≡ x = cc in
      let granted = granted_store (answers_by (sight s)) s.cpu new w retired in
      record {
        vpn = w.address / page_size;
        place = place;
        led = led;
        key = ap (λ (y : Store). y.key) store;
        writable = granted_writable (sight s) w.address (mapped s place) (ap (option_map (mapped s)) led) granted.granted;
        within = subst (λ (y : Store). y.offset + length y.bytes ≤ page_size) store (word_in_page w.address (length w.bytes) granted.lie);
      }

  by_call : (exits : Bool) → act_at_call s.cpu exits ≡ Stores x → IsLed s x
  by_call true acts = cc
  by_call false acts = cc

  by_trap : (exc : Exc) (unhandled : Bool) → (if unhandled then Dies (cause.Trapped exc.code) else Raises exc) ≡ Stores x → IsLed s x
  by_trap exc true acts = cc
  by_trap exc false acts = cc

  by_step : (st : Step) → step_alone s ≡ st → act_of s st ≡ Stores x → IsLed s x
  by_step (Retired new None) is acts = cc
  by_step (Retired new (Some w)) is acts = by_led new w is (leads s (w.address / page_size)) refl acts
  by_step Called is acts = by_call (reg s.cpu 2 == exit_number) acts
  by_step (Trapped exc) is acts = by_trap exc (s.handlers.exception == 0) acts

  led_store : act_of s (step_alone s) ≡ Stores x → IsLed s x
  led_store acts = by_step (step_alone s) refl acts

pub stored_within : (s : Solo) (x : Store) → act_of s (step_alone s) ≡ Stores x → x.offset + length x.bytes ≤ page_size
stored_within s x acts = (led_store s x acts).within

module _ (s : Solo) (x : Store) (page : ℕ) (into : x.key ≡ Physical page) where
  -- the VPN leads to the binding
  by_binding : (vpn : ℕ) (p : Option KeptPage) (b : Option Binding) (place : Place) → binding_at s.version s.binds vpn ≡ b → option_or (option_map (place_at vpn) p) (option_map bound_place b) ≡ Some place
      → place.key ≡ Physical page → place.writable ≡ true → IsThrough s page
  by_binding vpn p b place found led key writable = grind (arith, common_steps, found_in_row)

  bound_through : IsLed s x → IsThrough s page
  bound_through it = by_binding it.vpn (kept_at s.kept it.vpn) (binding_at s.version s.binds it.vpn) it.place refl it.led (it.key ∙ into) it.writable

pub stores_go_through : StoresGoThrough
stores_go_through s x page acts into = bound_through s x page into (led_store s x acts)

-- the guaranteed page at this number is there, and may be stored to
pub record IsWritable (s : Solo) (vpn : ℕ) : Type 0 where
  pub page : KeptPage
  pub there : kept_at s.kept vpn ≡ Some page
  pub writable : page.writable ≡ true

module _ (s : Solo) (x : Store) (vpn : ℕ) (into : x.key ≡ Kept vpn) where
  -- the VPN leads to it
  by_page : (n : ℕ) (p : Option KeptPage) (b : Option Binding) (place : Place) → kept_at s.kept n ≡ p → option_or (option_map (place_at n) p) (option_map bound_place b) ≡ Some place
      → place.key ≡ Kept vpn → place.writable ≡ true → IsWritable s vpn
  by_page n p b place found led key writable = grind (arith, common_steps)

  pub stored_writable : act_of s (step_alone s) ≡ Stores x → IsWritable s vpn
  stored_writable acts = let it = led_store s x acts in by_page it.vpn (kept_at s.kept it.vpn) (binding_at s.version s.binds it.vpn) it.place refl it.led (it.key ∙ into) it.writable
