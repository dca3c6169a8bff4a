-- The claim's environment lives, its ring is there, and the board stays sound.
use Rattle.std.proofs.Common.{◌≡◌, ℕ, Bool, true, false, List, Option, Some, None, length, sym, ap, ◌∙◌}
use Rattle.env_frames.specs.declared.post.PostWord.TheVariants as post
use Rattle.filter_tree.specs.declared.claim.Claim.{Claim}
use Rattle.filter_tree.specs.Claims.{claim_for, claim_handler}
use Rattle.frame_store.specs.Pages.{page_at}
use Rattle.packet_ring.specs.Ring.{is_full}
use Rattle.board_model.specs.Doing.{after_arrival_for, after_arrival, with_count, after_delivery_by, after_queue, after_delivery}
use Rattle.board_model.specs.Shown.{Shown}
use Rattle.board_model.specs.Sound.{IsSoundBoard}
use Rattle.board_model.proofs.Claiming.{delivered_claimed}
use Rattle.board_model.proofs.Happening.{claim_there}
use Rattle.board_model.proofs.Parted.{context_there}
use Rattle.board_model.proofs.Sound.{keeps_replying}
use Rattle.board_model.proofs.Staying.{sound_claims, sound_env, sound_frames}
use Rattle.aegis_calls.proofs.Runner.{seen}
use Rattle.aegis_calls.proofs.board.Board.arrive.Goals as goal

-- a board stays sound where a packet for a claim comes
delivered_sound : (b : Shown) (c : Claim) (packet : List ℕ) → length (after_delivery b c packet).frames ≡ length b.frames → IsSoundBoard b → IsSoundBoard (after_delivery b c packet)
delivered_sound b c packet same sound = by_handler (claim_handler b.claims c.id) same
  where
    by_full : (full : Bool) → length (after_queue full (with_count b post.Packets c.env) c packet).frames ≡ length b.frames → IsSoundBoard (after_queue full (with_count b post.Packets c.env) c packet)
    by_full true same = sound_frames _ same sound
    by_full false same = sound_claims _ (delivered_claimed b.claims b.pages b.roster c.id sound.claims) (sound_frames _ same sound)

    by_handler : (h : Option (List ℕ)) → length (after_delivery_by h (with_count b post.Packets c.env) c packet).frames ≡ length b.frames → IsSoundBoard (after_delivery_by h (with_count b post.Packets c.env) c packet)
    by_handler None same = by_full (is_full (page_at (with_count b post.Packets c.env).frames c.page) c.next) same
    by_handler (Some words) same = sound_env _ (keeps_replying _) c.env (sound_frames _ same sound)

pub deliver-requires : goal.deliver-requires
deliver-requires c =
    let claim = c.in-Some.claim in
    let there = claim_there _ c.of-packet.result claim c.self.invariant (sym c.claim_for.ensures ∙ c.in-Some.is) in
    record {
      ring = there.1;
      there = there.0.0;
      page = context_there _ _ _ c.self.invariant.memory claim.env;
    }

pub invariant_of-self : goal.invariant_of-self
invariant_of-self c =
    let b = seen c.self.view_is in
    let same = ap (λ (s : Shown). length s.frames) (sym (c.deliver.ensures.after b)) ∙ c.deliver.ensures.size in
    rw (c.deliver.ensures.after b) (delivered_sound b c.in-Some.claim c.of-packet.result same c.self.invariant)

pub returns-in-Some : goal.returns-in-Some
returns-in-Some c =
    let b = seen c.self.view_is in
    let packet = c.args.packet.now in
    c.deliver.ensures.after b
    ∙ ap (after_delivery b c.in-Some.claim) c.of-packet.ensures
    ∙ ap (after_arrival_for b packet) (sym c.in-Some.is ∙ c.claim_for.ensures ∙ ap (claim_for b.claims) c.of-packet.ensures)
    ∙ ap (λ (s : Shown). after_arrival s packet) c.self.view_is
