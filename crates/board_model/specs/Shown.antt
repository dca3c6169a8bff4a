-- What a board shows: its parts as plain data.
use Rattle.std.specs.Prelude.{ℕ, zero, suc, ◌-◌, List, [], ◌∷◌, ◌++◌, Option, Some, None, slice_get}
use Rattle.kernel_journal.specs.Ledger.{Ledger}
use Rattle.mips_exec.specs.declared.registers.Cpu.{Cpu}
use Rattle.mips_exec.specs.Cpu.{blank_cpu}
use Rattle.page_book.specs.declared.row.PageRow.{PageRow}
use Rattle.bind_book.specs.Stripe.{Stripes}
use Rattle.slot_vector.specs.Slices.{Slices}
use Rattle.env_frames.specs.declared.context.Handlers.{Handlers}
use Rattle.env_frames.specs.declared.mapping.Mapping.{Mapping}
use Rattle.env_frames.specs.Context.{no_handlers}
use Rattle.env_frames.specs.Frame.{EnvValue}
use Rattle.filter_tree.specs.ClaimBook.{ClaimBook}
use Rattle.revocation_book.specs.RevocationBook.{RevocationBook}
use Rattle.world_model.specs.declared.life.Life.TheVariants.{Live}
use Rattle.tlb_model.specs.Cache.{Cache}
use Rattle.board_model.specs.declared.output.Output.{Output}
use Rattle.board_model.specs.declared.roster.Environment.{Environment}

-- the environments so far, and how many more there is room for
pub record Environments : Type 0 where
  pub list : List Environment
  pub spare : ℕ

-- The pages of physical memory; whose each of them is; the stripes of bindings; whose the interrupt lines
-- are; the claims that stand; what is asked of environments, and their backups; the vector of slots; the registers of
-- the machine; the environments; the time; the ledger; and the TLB.
pub record Shown : Type 0 where
  pub frames : List (List ℕ)
  pub pages : List PageRow
  pub binds : Stripes
  pub lines : List (Option ℕ)
  pub claims : ClaimBook
  pub revocations : RevocationBook
  pub slots : Slices
  pub cpu : Cpu
  pub roster : Environments
  pub time : ℕ
  pub ledger : Ledger
  pub tlb : Cache

abbrev pub mappings_in : Option Environment → List Mapping
mappings_in None = []
mappings_in (Some x) = x.env.mappings

-- the guaranteed mappings of an environment
abbrev pub mappings_of : List Environment → ℕ → List Mapping
mappings_of list e = mappings_in (slice_get list e)

abbrev pub handlers_in : Option Environment → Handlers
handlers_in None = no_handlers
handlers_in (Some x) = x.env.handlers

-- the handlers of an environment
abbrev pub handlers_of : List Environment → ℕ → Handlers
handlers_of list e = handlers_in (slice_get list e)

abbrev pub registers_in : Option Environment → Cpu
registers_in None = blank_cpu
registers_in (Some x) = x.env.cpu

-- the registers that are kept of an environment
abbrev pub registers_of : List Environment → ℕ → Cpu
registers_of list e = registers_in (slice_get list e)

abbrev pub accept_mask_in : Option Environment → ℕ
accept_mask_in None = 0
accept_mask_in (Some x) = x.env.mask

-- the mask of those whom an environment accepts
abbrev pub accept_mask_of : List Environment → ℕ → ℕ
accept_mask_of list e = accept_mask_in (slice_get list e)

-- nothing is put out yet
abbrev pub no_output : Output
no_output = record { console = []; sent = [] }

-- the environments and a new one, which lives and put out nothing
abbrev pub with_newcomer : List ℕ → EnvValue → Environments → Environments
with_newcomer name env r = record {
  list = r.list ++ record { name = name; life = Live; env = env; output = no_output } ∷ [];
  spare = r.spare - 1;
}

abbrev pub console_in : Option Environment → List ℕ
console_in None = []
console_in (Some x) = x.output.console

-- what an environment wrote to its console
abbrev pub console_of : List Environment → ℕ → List ℕ
console_of list e = console_in (slice_get list e)

abbrev pub sent_in : Option Environment → List (List ℕ)
sent_in None = []
sent_in (Some x) = x.output.sent

-- the packets that an environment sent
abbrev pub sent_of : List Environment → ℕ → List (List ℕ)
sent_of list e = sent_in (slice_get list e)

-- a list with the element at one place changed
abbrev pub with_record : {A : Type 0} → (A → A) → List A → ℕ → List A
with_record f [] e = []
with_record f (x ∷ xs) zero = f x ∷ xs
with_record f (x ∷ xs) (suc e) = x ∷ with_record f xs e

-- other environments in a roster
abbrev pub with_list : Environments → List Environment → Environments
with_list r list = record r { list = list }

-- a board with this room for rows of the ledger
abbrev pub with_spare : Shown → ℕ → Shown
with_spare b spare = record b { ledger = record b.ledger { spare = spare } }
