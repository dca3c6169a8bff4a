-- An environment that accepts nobody, sees no page but its guaranteed ones, and has no claim.
use Rattle.std.proofs.Common.{◌≡◌, ℕ, [], true, false, Option, None, Some, ap, map, refl}
use Rattle.std.specs.Prelude.{◌==◌, filter, is_some, not}
use Rattle.std.specs.Option.{option_map}
use Rattle.std.proofs.lemmas.Bool.{cond_both, eqb-true}
use Rattle.bind_book.specs.Stripe.{binding_at, row_of}
use Rattle.env_frames.specs.Context.{context_numbered}
use Rattle.env_frames.specs.declared.context.Context.{Context}
use Rattle.mips_exec.specs.Cpu.{reg}
use Rattle.mips_exec.specs.declared.registers.Cpu.{Cpu}
use Rattle.mips_exec.specs.Step.{cpu_after}
use Rattle.world_model.specs.declared.call.Call.{Call}
use Rattle.world_model.specs.declared.call.Call.TheVariants as call
use Rattle.world_model.specs.declared.call.Deed.{Deed}
use Rattle.world_model.specs.declared.call.Deed.TheVariants.{Answers, Own, Stops, Unbinds, Unclaims, Downloads}
use Rattle.world_model.specs.declared.call.OwnDeed.TheVariants.{Puts, Sends, Handles, Accepts}
use Rattle.world_model.specs.declared.verdict.Verdict.{Verdict}
use Rattle.world_model.specs.declared.verdict.Verdict.TheVariants.{Refuse, Again, Grant}
use Rattle.world_model.specs.Call.{any, context_deed, deed_of}
use Rattle.world_model.specs.Downloads.{handler_at, handler_or_none}
use Rattle.world_model.specs.Holding.{after_unbind, with_binds}
use Rattle.world_model.specs.Item.{Item, Answer, End, Killed, Start, Step, absorb, absorbed, deed_at, own_part, with_answer}
use Rattle.world_model.specs.Rings.{is_ring, ring_with_handler_if}
use Rattle.world_model.specs.Solo.{Ring, Seen, Solo, Store, is_dead, is_physical, sight, sight_after, stored_sight}
use Rattle.world_model.specs.Step.{Act, Nothing, Stores, Calls, Raises, Dies, act_of, acted, step_alone}
use Rattle.world_model.specs.Table.{set_at}
use Rattle.world_model.specs.Upcalls.{start_by}
use Rattle.quiet_law.specs.Alone.{is_quiet_call}

pub record HasNothing (s : Solo) : Type 0 where
  pub deaf : s.mask ≡ 0
  pub sees : (page : ℕ) → s.seen page ≡ None
  pub rings : s.rings ≡ []

-- What it absorbs leaves it so, unless it is dead.
pub absorbed_nothing : (s : Solo) (item : Item) → HasNothing s → HasNothing (absorbed s item) → HasNothing (absorb s item)
absorbed_nothing s item was becomes = cond_both (is_dead s.life) s (absorbed s item) HasNothing (λ gone. was) (λ lives. becomes)

-- its own step,
stored_nothing : (x : Store) (page : ℕ) (seen : Option Seen) → seen ≡ None → sight_after x page seen ≡ None
stored_nothing x page seen none = rw none (cond_both (is_physical page x.key) (option_map (stored_sight x) None) None (λ (o : Option Seen). o ≡ None) (λ its. refl) (λ other. refl))

act_nothing : (act : Act) (s : Solo) → HasNothing s → HasNothing (acted act s)
act_nothing Nothing s was = was
act_nothing (Stores x) s was = record { deaf = was.deaf; sees = λ page. stored_nothing x page (s.seen page) (was.sees page); rings = was.rings }
act_nothing (Calls c) s was = was
act_nothing (Raises exc) s was = record { deaf = was.deaf; sees = was.sees; rings = was.rings }
act_nothing (Dies cause) s was = record { deaf = refl; sees = λ page. refl; rings = refl }

pub step_nothing : (s : Solo) → HasNothing s → HasNothing (absorb s Step)
step_nothing s was =
    absorbed_nothing s Step was
    (act_nothing (act_of s (step_alone s)) (record s { cpu = cpu_after s.cpu (step_alone s) }) (record { deaf = was.deaf; sees = was.sees; rings = was.rings }))

-- the start and the end of its slice,
start_nothing_by : (handler : ℕ) (s : Solo) → HasNothing s → HasNothing (start_by handler s)
start_nothing_by handler s was = cond_both (handler == 0) _ _ HasNothing (λ none. record { deaf = was.deaf; sees = was.sees; rings = was.rings }) (λ handles. record { deaf = was.deaf; sees = was.sees; rings = was.rings })

pub start_nothing : (s : Solo) → HasNothing s → HasNothing (absorb s Start)
start_nothing s was = absorbed_nothing s Start was (start_nothing_by s.handlers.start s was)

pub end_nothing : (s : Solo) → HasNothing s → HasNothing (absorb s End)
end_nothing s was = absorbed_nothing s End was (record { deaf = was.deaf; sees = was.sees; rings = was.rings })

pub killed_nothing : (s : Solo) → HasNothing s → HasNothing (absorb s Killed)
killed_nothing s was = absorbed_nothing s Killed was (record { deaf = refl; sees = λ page. refl; rings = refl })

-- and the answers to its quiet calls. What these do:
abbrev pub IsQuietDeed : Deed → Type 0
IsQuietDeed Answers = Unit {0}
IsQuietDeed (Own (Puts address size)) = Unit {0}
IsQuietDeed (Own (Sends address size)) = Unit {0}
IsQuietDeed (Own (Handles kind address)) = Unit {0}
IsQuietDeed (Own (Accepts mask)) = mask ≡ 0
IsQuietDeed Stops = Unit {0}
IsQuietDeed (Unbinds vpn) = Unit {0}
IsQuietDeed (Unclaims claim) = Unit {0}
IsQuietDeed (Downloads claim address words) = Unit {0}
IsQuietDeed deed = ⊥

pub unbound_nothing : (vpn : ℕ) (s : Solo) → HasNothing s → HasNothing (after_unbind vpn s)
unbound_nothing vpn s was =
    cond_both (is_some (binding_at s.version s.binds vpn)) (with_binds (set_at (row_of s.version vpn) None s.binds) s) s HasNothing
    (λ bound. record { deaf = was.deaf; sees = λ page. rw (was.sees page) refl; rings = was.rings }) (λ none. was)

pub deed_nothing : (d : Deed) (s : Solo) → IsQuietDeed d → HasNothing s → HasNothing (own_part d s)
deed_nothing Answers s quiet was = was
deed_nothing (Own (Puts address size)) s quiet was = record { deaf = was.deaf; sees = was.sees; rings = was.rings }
deed_nothing (Own (Sends address size)) s quiet was = record { deaf = was.deaf; sees = was.sees; rings = was.rings }
deed_nothing (Own (Handles kind address)) s quiet was = record { deaf = was.deaf; sees = was.sees; rings = was.rings }
deed_nothing (Own (Accepts mask)) s quiet was = record { deaf = quiet; sees = was.sees; rings = was.rings }
deed_nothing Stops s quiet was = was
deed_nothing (Unbinds vpn) s quiet was = unbound_nothing vpn s was
deed_nothing (Unclaims claim) s quiet was = record { deaf = was.deaf; sees = was.sees; rings = ap (filter (λ (r : Ring). not (is_ring claim r))) was.rings }
deed_nothing (Downloads claim address words) s quiet was =
    record { deaf = was.deaf; sees = was.sees; rings = ap (map (ring_with_handler_if claim (handler_or_none (handler_at (sight s) address words)))) was.rings }
deed_nothing d s quiet was = absurd quiet

answered_nothing : (v : Verdict) (s : Solo) → ((value : ℕ) → v ≡ Grant value → IsQuietDeed (deed_at s value)) → HasNothing s → HasNothing (with_answer v s)
answered_nothing (Refuse code value) s quiet was = record { deaf = was.deaf; sees = was.sees; rings = was.rings }
answered_nothing (Again who) s quiet was = record { deaf = was.deaf; sees = was.sees; rings = was.rings }
answered_nothing (Grant value) s quiet was = let its = deed_nothing (deed_at s value) s (quiet value refl) was in record { deaf = its.deaf; sees = its.sees; rings = its.rings }

pub answer_nothing : (v : Verdict) (s : Solo) → ((value : ℕ) → v ≡ Grant value → IsQuietDeed (deed_at s value)) → HasNothing s → HasNothing (absorb s (Answer v))
answer_nothing v s quiet was = absorbed_nothing s (Answer v) was (answered_nothing v s quiet was)

-- a quiet call does such a deed
context_quiet : (kind : Option Context) (address : ℕ) → IsQuietDeed (context_deed kind address)
context_quiet None address = tt
context_quiet (Some kind) address = tt

yield_quiet : (cpu : Cpu) (value : ℕ) → (reg cpu 4 == any) ≡ true → IsQuietDeed (deed_of (Some call.Yield) value cpu)
yield_quiet cpu value is = rw is tt

pub call_quiet : (cpu : Cpu) (c : Option Call) (value : ℕ) → is_quiet_call cpu c ≡ true → IsQuietDeed (deed_of c value cpu)
call_quiet cpu None value quiet = tt
call_quiet cpu (Some call.Yield) value quiet = yield_quiet cpu value quiet
call_quiet cpu (Some call.Put) value quiet = tt
call_quiet cpu (Some call.Send) value quiet = tt
call_quiet cpu (Some call.Unbind) value quiet = tt
call_quiet cpu (Some call.Context) value quiet = context_quiet (context_numbered (reg cpu 4)) (reg cpu 5)
call_quiet cpu (Some call.Accept) value quiet = eqb-true (reg cpu 4) 0 quiet
call_quiet cpu (Some call.Query) value quiet = tt
call_quiet cpu (Some call.Unclaim) value quiet = tt
call_quiet cpu (Some call.Handler) value quiet = tt
call_quiet cpu (Some call.OwnNumber) value quiet = tt
call_quiet cpu c value quiet = let never : false ≡ true = quiet in cc
