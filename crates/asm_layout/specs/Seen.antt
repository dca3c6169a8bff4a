-- What the program holds, as plain data.
use Rattle.std.specs.Prelude.{List, map, replicate}
use Rattle.asm_parse.specs.Expression.{ExpressionValue}
use Rattle.asm_parse.specs.Operand.{OperandValue}
use Rattle.asm_parse.specs.Seen.{arg_seen, expression_seen}
use Rattle.asm_parse.specs.declared.syntax.Arg.{Arg}
use Rattle.asm_parse.specs.declared.expression.Expression.{Expression}
use Rattle.asm_layout.specs.Action as actions
use Rattle.asm_layout.specs.Action.{operands_in}
use Rattle.asm_layout.specs.Content as contents
use Rattle.asm_layout.specs.Draft as drafts
use Rattle.asm_layout.specs.Layout as layouts
use Rattle.asm_layout.specs.declared.action.Action.{Action}
use Rattle.asm_layout.specs.declared.action.Action.TheVariants as action
use Rattle.asm_layout.specs.declared.content.Content.{Content}
use Rattle.asm_layout.specs.declared.content.Content.TheVariants as content
use Rattle.asm_layout.specs.declared.draft.Draft.{Draft}
use Rattle.asm_layout.specs.declared.draft.Filling.{Filling}
use Rattle.asm_layout.specs.declared.draft.Filling.TheVariants as filling
use Rattle.asm_layout.specs.declared.layout.Layout.{Layout}
use Rattle.asm_layout.specs.declared.layout.Placed.{Placed}
use Rattle.asm_layout.specs.declared.reading.Reading.{Reading}

abbrev pub operands_seen : List Arg → List OperandValue
operands_seen args = operands_in (map arg_seen args)

abbrev pub filling_seen : Filling → drafts.Filling
filling_seen filling.Whole = drafts.Whole
filling_seen (filling.Filled field e) = drafts.Filled field (expression_seen e)
filling_seen (filling.Halves e) = drafts.Halves (expression_seen e)

abbrev pub draft_seen : Draft → drafts.Draft
draft_seen d = record { word = d.word; filling = filling_seen d.filling }

abbrev pub reading_seen : Reading → drafts.Reading
reading_seen r = record { word = r.word; filling = filling_seen r.filling }

abbrev pub expressions_seen : List Expression → List ExpressionValue
expressions_seen es = map expression_seen es

abbrev pub content_seen : Content → contents.Content
content_seen (content.Instruction d) = contents.Instruction (draft_seen d)
content_seen (content.Numbers size es) = contents.Numbers size (expressions_seen es.items)
content_seen (content.Bytes bs) = contents.Given bs.items
content_seen (content.Zeros n) = contents.Given (replicate n 0)

abbrev pub action_seen : Action → actions.Action
action_seen (action.Put c) = actions.Put (content_seen c)
action_seen (action.Align n) = actions.Align n
action_seen (action.Enter section) = actions.Enter section
action_seen (action.Define name e) = actions.Define name.now (expression_seen e)

abbrev pub placed_seen : Placed → layouts.Placed
placed_seen p = record {
  line = p.line;
  section = p.section;
  place = p.place;
  is_start = p.is_start;
  content = content_seen p.content;
}

abbrev pub all_placed_seen : List Placed → List layouts.Placed
all_placed_seen ps = map placed_seen ps

abbrev pub layout_seen : Layout → layouts.Layout
layout_seen l = record {
  section = l.section;
  text = l.text;
  data_bytes = l.data_bytes;
  names = l.names;
  start = l.start;
  placed = all_placed_seen l.placed.items;
}
