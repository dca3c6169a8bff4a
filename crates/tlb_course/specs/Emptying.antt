-- Which rows of the TLB are emptied by what an environment does, by a taking, and by the timer.
use Rattle.std.specs.Prelude.{ℕ, List, [], ◌∷◌, Option, Some, None}
use Rattle.bind_book.specs.Stripe.{row_of}
use Rattle.revocation_book.specs.declared.revocation.Taking.{Taking}
use Rattle.world_model.specs.declared.call.Deed.{Deed}
use Rattle.world_model.specs.declared.call.Deed.TheVariants.{Frees, Recaps, Binds, Unbinds}
use Rattle.world_model.specs.declared.slot.Runner.{Runner}
use Rattle.world_model.specs.declared.timer.Timer.{Timer}
use Rattle.world_model.specs.declared.timer.Timer.TheVariants as timer
use Rattle.world_model.specs.declared.verdict.Verdict.{Verdict}
use Rattle.world_model.specs.declared.verdict.Verdict.TheVariants.{Refuse, Again, Grant}
use Rattle.world_model.specs.Book.{Book}
use Rattle.world_model.specs.Item.{deed_at}
use Rattle.world_model.specs.Step.{Act, Nothing, Stores, Calls, Raises, Dies}
use Rattle.world_model.specs.Tick.{timer_now}
use Rattle.world_model.specs.Verdict.{verdict}
use Rattle.world_model.specs.World.{World}
use Rattle.tlb_model.specs.Flushes.{Flush, OfEnv, OfPage, OfPair, replaced_pair}

-- What a deed empties, by the book before it: a bind the pair that is bound and the one that it replaces, an unbind its
-- pair, a free and a recap the rows of the page, those of its owner too. Every other deed empties nothing.
abbrev pub deed_flushes : Book → ℕ → Deed → List Flush
deed_flushes b e (Frees page) = OfPage page ∷ []
deed_flushes b e (Recaps page words) = OfPage page ∷ []
deed_flushes b e (Binds x word) = OfPair x.vpn e ∷ replaced_pair e (b.binds e (row_of b.version x.vpn))
deed_flushes b e (Unbinds vpn) = OfPair vpn e ∷ []
deed_flushes b e deed = []

-- a call that isn't granted empties nothing
abbrev pub verdict_flushes : World → ℕ → Verdict → List Flush
verdict_flushes w e (Refuse code value) = []
verdict_flushes w e (Again who) = []
verdict_flushes w e (Grant value) = deed_flushes w.book e (deed_at (w.solos e) value)

-- an act empties what its call does, and a death the rows of the environment and of its pages
abbrev pub act_flushes : World → ℕ → Act → List Flush
act_flushes w e Nothing = []
act_flushes w e (Stores x) = []
act_flushes w e (Calls call) = verdict_flushes w e (verdict w e call)
act_flushes w e (Raises exc) = []
act_flushes w e (Dies cause) = OfEnv w.book.pages e ∷ []

-- a taking empties the rows of its page
abbrev pub taking_flush : Taking → Flush
taking_flush x = OfPage x.page

-- the timer empties rows where its runner dies of its excess
abbrev pub timer_flushes : World → ℕ → Timer → List Flush
timer_flushes w e timer.Kill = OfEnv w.book.pages e ∷ []
timer_flushes w e answer = []

abbrev pub count_flushes : World → Option Runner → List Flush
count_flushes w None = []
count_flushes w (Some r) = timer_flushes w r.env (timer_now w r)
