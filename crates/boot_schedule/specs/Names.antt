-- What is printed of each cause.
use Rattle.std.specs.Prelude.{ℕ, List, codes}
use Rattle.boot_schedule.specs.declared.fault.ScheduleWhy.{ScheduleWhy}
use Rattle.boot_schedule.specs.declared.fault.ScheduleWhy.TheVariants.{Syntax, Range, Hex, Order, Many}

-- the printed name of a cause
abbrev pub schedule_why_text : ScheduleWhy → List ℕ
schedule_why_text Syntax = codes "Syntax"
schedule_why_text Range = codes "Range"
schedule_why_text Hex = codes "Hex"
schedule_why_text Order = codes "Order"
schedule_why_text Many = codes "Many"
