-- A call that is to be made again asks another environment.
use Rattle.std.proofs.Common.{◌≡◌, ◌∙◌, ℕ, List, Bool, true, false, Option, Some, None, Result, Ok, Err, is_some, refl, ap, subst}
use Rattle.std.specs.Prelude.{◌==◌, if◌then◌else◌}
use Rattle.std.specs.Option.{option_map}
use Rattle.std.proofs.lemmas.Bool.{both_ways}
use Rattle.aegis_limits.specs.declared.version.Version.{Version}
use Rattle.aegis_limits.specs.declared.version.Version.TheVariants.{One, Two}
use Rattle.aegis_limits.specs.Limits.{environment_numbers}
use Rattle.mips_exec.specs.Cpu.{reg}
use Rattle.filter_core.specs.declared.atom.Atom.{Atom}
use Rattle.filter_tree.specs.declared.claim.ClaimNo.{ClaimNo}
use Rattle.filter_tree.specs.declared.claim.ClaimNo.TheVariants as claim_no
use Rattle.env_frames.specs.declared.transfer.TransferKind.{TransferKind}
use Rattle.env_frames.specs.Transfer.{transfer_numbered}
use Rattle.filter_tree.specs.Claims.{claim_refusal}
use Rattle.page_book.specs.Row.{alloc_refusal}
use Rattle.page_book.specs.Rows.{lowest_free}
use Rattle.revocation_book.specs.Richest.{AreRichest, RichestHasMost, richest}
use Rattle.world_model.specs.declared.call.Call.{Call}
use Rattle.world_model.specs.declared.call.Call.TheVariants as call
use Rattle.world_model.specs.declared.code.Code.{Code}
use Rattle.world_model.specs.declared.code.Code.TheVariants as code
use Rattle.world_model.specs.declared.verdict.Verdict.{Verdict}
use Rattle.world_model.specs.declared.verdict.Verdict.TheVariants.{Refuse, Again, Grant}
use Rattle.world_model.specs.Answer.{granted_unless, verdict_of}
use Rattle.world_model.specs.Book.{page_row}
use Rattle.world_model.specs.declared.verdict.HandlerNo.{HandlerNo}
use Rattle.world_model.specs.declared.verdict.HandlerNo.TheVariants as handler_no
use Rattle.world_model.specs.ClaimCalls.{claim_by, claim_verdict, filter_at, page_verdict}
use Rattle.world_model.specs.Downloads.{download_verdict, handler_at}
use Rattle.world_model.specs.Rings.{ring_of}
use Rattle.world_model.specs.SlotCalls.{refusal_of_gift, yield_by}
use Rattle.world_model.specs.Solo.{sight}
use Rattle.world_model.specs.Transfers.{refusal_of_transfer, transfer_by}
use Rattle.world_model.specs.Call.{any}
use Rattle.world_model.specs.Code.{code_of}
use Rattle.world_model.specs.May.{MayAsk}
use Rattle.world_model.specs.PageCalls.{any_page, pressed, revocations}
use Rattle.world_model.specs.Verdict.{verdict}
use Rattle.world_model.specs.World.{World}
use Rattle.call_verdicts.specs.Granted.{AgainAsks}

abbrev is_again : Verdict → Bool
is_again (Refuse code value) = false
is_again (Again who) = true
is_again (Grant value) = false

-- Every call but an allocation is refused or granted.
unless_calm : (why : Option Code) (value : ℕ) → is_again (granted_unless why value) ≡ false
unless_calm None value = refl
unless_calm (Some code) value = refl

answer_calm : (answer : Result ℕ Code) → is_again (verdict_of answer) ≡ false
answer_calm (Ok value) = refl
answer_calm (Err why) = refl

yield_calm : (w : World) (e target : ℕ) (is_any : Bool) → is_again (yield_by w e target is_any) ≡ false
yield_calm w e target true = refl
yield_calm w e target false = unless_calm (refusal_of_gift w e target) 0

transfer_calm : (w : World) (e target : ℕ) (kind : Option TransferKind) → is_again (transfer_by w e target kind) ≡ false
transfer_calm w e target None = refl
transfer_calm w e target (Some kind) = unless_calm (refusal_of_transfer w e target kind) 0

claimed_calm : (why : Option Code) (refusal : Option ClaimNo) (claim : ℕ) → is_again (page_verdict why (claim_verdict refusal claim)) ≡ false
claimed_calm (Some why) refusal claim = refl
claimed_calm None None claim = refl
claimed_calm None (Some claim_no.Full) claim = refl
claimed_calm None (Some (claim_no.Overlap other)) claim = refl

claim_calm : (w : World) (e page : ℕ) (filter : Result (List Atom) Code) → is_again (claim_by w e page filter) ≡ false
claim_calm w e page (Err why) = refl
claim_calm w e page (Ok filter) = claimed_calm _ (claim_refusal w.book.claims e filter) w.book.next_claim

ring_calm : (there : Bool) → is_again (if there then Grant 0 else Refuse code.NoFilter 0) ≡ false
ring_calm true = refl
ring_calm false = refl

handler_calm : (there : Bool) (handler : Result (List ℕ) HandlerNo) → is_again (if there then download_verdict handler else Refuse code.NoFilter 0) ≡ false
handler_calm true (Ok words) = refl
handler_calm true (Err handler_no.BadPointer) = refl
handler_calm true (Err (handler_no.BadWord at)) = refl
handler_calm false handler = refl

abbrev is_alloc : Option Call → Bool
is_alloc (Some call.Alloc) = true
is_alloc c = false

calm : (w : World) (e : ℕ) (c : Option Call) → is_alloc c ≡ false → is_again (verdict w e c) ≡ false
calm w e None other = refl
calm w e (Some call.Yield) other = yield_calm w e (reg (w.solos e).cpu 4) (reg (w.solos e).cpu 4 == any)
calm w e (Some call.Put) other = unless_calm _ _
calm w e (Some call.Alloc) other = cc
calm w e (Some call.Free) other = unless_calm _ _
calm w e (Some call.Recap) other = unless_calm _ _
calm w e (Some call.Bind) other = unless_calm _ _
calm w e (Some call.Unbind) other = unless_calm _ _
calm w e (Some call.Context) other = unless_calm _ _
calm w e (Some call.Accept) other = refl
calm w e (Some call.Transfer) other = transfer_calm w e (reg (w.solos e).cpu 4) (transfer_numbered (reg (w.solos e).cpu 5))
calm w e (Some call.SlotTake) other = unless_calm _ _
calm w e (Some call.SlotDrop) other = unless_calm _ _
calm w e (Some call.Query) other = answer_calm _
calm w e (Some call.Claim) other = let s = w.solos e in claim_calm w e (reg s.cpu 6) (filter_at (sight s) (reg s.cpu 4) (reg s.cpu 5))
calm w e (Some call.Unclaim) other = let s = w.solos e in ring_calm (is_some (ring_of s.rings (reg s.cpu 4)))
calm w e (Some call.Handler) other =
    let s = w.solos e in handler_calm (is_some (ring_of s.rings (reg s.cpu 4))) (handler_at (sight s) (reg s.cpu 5) (reg s.cpu 6))
calm w e (Some call.Line) other = unless_calm _ _
calm w e (Some call.Backup) other = unless_calm _ _
calm w e (Some call.Send) other = unless_calm _ _
calm w e (Some call.OwnNumber) other = refl
calm w e (Some call.Clock) other = refl

-- An allocation of any page, where none is free in the larger machine.
module _ (law : RichestHasMost) (w : World) (e who : ℕ) where
  by_richest : lowest_free w.book.pages w.book.page_count ≡ None → (v : Version) (richest_one : Option ℕ) → w.book.version ≡ v → richest (revocations w.book) e ≡ richest_one → pressed v richest_one ≡ Again who
      → MayAsk w e who
  by_richest none One richest_one larger has is = cc
  by_richest none Two None larger has is = cc
  by_richest none Two (Some x) larger has is =
      let same : x ≡ who = cc in
      let most = has ∙ ap Some same in
      let is_richest = subst (AreRichest (revocations w.book) e environment_numbers) most (law (revocations w.book) e) in
      record { larger = larger; none = none; richest = most; another = is_richest.other }

  by_lowest : (o : Option ℕ) → lowest_free w.book.pages w.book.page_count ≡ o → any_page w.book.version o (richest (revocations w.book) e) ≡ Again who → MayAsk w e who
  by_lowest None none is = by_richest none w.book.version (richest (revocations w.book) e) refl refl is
  by_lowest (Some page) free is = cc

  by_named : (t : Bool) (page : ℕ)
      → (if t then any_page w.book.version (lowest_free w.book.pages w.book.page_count) (richest (revocations w.book) e) else granted_unless (option_map code_of (alloc_refusal (page_row w.book page))) page) ≡ Again who
      → MayAsk w e who
  by_named true page is = by_lowest (lowest_free w.book.pages w.book.page_count) refl is
  by_named false page is = absurd (both_ways (is_again (granted_unless (option_map code_of (alloc_refusal (page_row w.book page))) page)) (unless_calm _ page) (ap is_again is))

pub again_asks : RichestHasMost → AgainAsks
again_asks law w e (Some call.Alloc) who is = let page = reg (w.solos e).cpu 4 in by_named law w e who (page == any) page is
again_asks law w e c who is = absurd (both_ways (is_again (verdict w e c)) (calm w e c refl) (ap is_again is))
