-- What a call brings its caller: the answer in its registers, the bytes of a put, the packet of a send, the words of a page.
use Rattle.std.specs.Prelude.{◌≡◌, ◌+◌, ◌*◌, ◌^◌, ℕ, List, [], ◌∷◌, ◌++◌, Option, Some, ◌⊎◌}
use Rattle.mips_exec.specs.Cpu.{reg}
use Rattle.page_book.specs.declared.row.Capabilities.{Capabilities}
use Rattle.page_book.specs.declared.row.PageRow.TheVariants.{Owned}
use Rattle.world_model.specs.declared.call.Call.{Call}
use Rattle.world_model.specs.declared.call.Deed.TheVariants.{Allocates, Own, Recaps}
use Rattle.world_model.specs.declared.call.OwnDeed.TheVariants.{Puts, Sends}
use Rattle.world_model.specs.Call.{good_range}
use Rattle.world_model.specs.Item.{answered_cpu}
use Rattle.world_model.specs.OwnCalls.{put_bytes}
use Rattle.world_model.specs.Solo.{sight}
use Rattle.world_model.specs.Step.{Calls}
use Rattle.world_model.specs.Verdict.{verdict}
use Rattle.run_model.specs.Acting.{Acts, Does}
use Rattle.run_model.specs.Run.{System, at_step, at_timer}

-- Who calls finds the verdict: its code in register 2, its value in register 3, and goes on after the call.
abbrev pub AnswersAreFound : Type 0
AnswersAreFound = (system : System) (t e : ℕ) (call : Option Call) → Acts (at_step system t) e (Calls call)
    → ((at_timer system t).solos e).cpu
    ≡ answered_cpu (verdict (at_step system t) e call) ((at_step system t).solos e).cpu

-- the bytes of the range that the put names, as the caller sees them, and the console that ends with them
pub record IsPut (system : System) (t e address size : ℕ) : Type 0 where
  pub bytes : List ℕ
  pub named : put_bytes (sight ((at_step system t).solos e)) address size ≡ Some bytes
  pub written : ((at_timer system t).solos e).console ≡ ((at_step system t).solos e).console ++ bytes

-- Who is granted a put has written these bytes, behind what it wrote before.
abbrev pub PutsAreWritten : Type 0
PutsAreWritten = (system : System) (t e address size : ℕ) → Does (at_step system t) e (Own (Puts address size))
    → IsPut system t e address size

-- likewise the bytes of a packet, and the packets that were sent
pub record IsSent (system : System) (t e address size : ℕ) : Type 0 where
  pub packet : List ℕ
  pub named : good_range (sight ((at_step system t).solos e)) address size ≡ Some packet
  pub put : ((at_timer system t).solos e).sent ≡ ((at_step system t).solos e).sent ++ packet ∷ []

abbrev pub SendsAreSent : Type 0
SendsAreSent = (system : System) (t e address size : ℕ) → Does (at_step system t) e (Own (Sends address size))
    → IsSent system t e address size

-- A page has its owner's words: the word to read by in registers 5 and 6 of its call, the lower half first, and the
-- word to write by in 7 and 8.
pub record HasOwnersWords (system : System) (t e page : ℕ) : Type 0 where
  pub words : Capabilities
  pub owned : (at_timer system t).book.pages page ≡ Owned e words
  pub read : let cpu = ((at_step system t).solos e).cpu in words.read ≡ reg cpu 5 + reg cpu 6 * 2 ^ 32
  pub write : let cpu = ((at_step system t).solos e).cpu in words.write ≡ reg cpu 7 + reg cpu 8 * 2 ^ 32

-- So it is after a granted allocation, and after a recap.
abbrev pub WordsAreOwners : Type 0
WordsAreOwners = (system : System) (t e page : ℕ) (words : Capabilities)
    → Does (at_step system t) e (Allocates page words) ⊎ Does (at_step system t) e (Recaps page words)
    → HasOwnersWords system t e page
