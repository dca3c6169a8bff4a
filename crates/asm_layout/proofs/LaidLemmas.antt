-- That it holds of each layout of the first pass.
use Rattle.std.proofs.Common.{◌≡◌, ℕ, ◌+◌, ◌-◌, ◌≤◌, Bool, true, false, inl, inr, List, [], ◌∷◌, ◌++◌, Option, Some, None, refl, arith, lit≤, IfOk, nat_le}
use Rattle.std.proofs.lemmas.Bool.{leb-true}
use Rattle.std.proofs.lemmas.Result.{IfOk-weaker}
use Rattle.asm_parse.specs.Expression.{ExpressionValue}
use Rattle.asm_parse.specs.Form.{due_of}
use Rattle.asm_parse.specs.declared.syntax.AsmLine.{AsmLine}
use Rattle.line_text.specs.Lines.{LineValue, lines_of}
use Rattle.asm_layout.specs.declared.section.Section.{Section}
use Rattle.asm_layout.specs.declared.section.Section.TheVariants.{Text, Data}
use Rattle.asm_layout.specs.Action.{Action, Put, Align, Enter, Define, action_of}
use Rattle.asm_layout.specs.Content.{Content, Given, content_length}
use Rattle.asm_layout.specs.Laid.{HasStart, IsLaid, StartIn, length_in, total}
use Rattle.asm_layout.specs.Layout.{Layout, Placed, acted, added, appended, equated, grown_by, is_start, labelled, laid, laid_from, line_added, with_name, nothing_placed, place_of, put, started, stated, used_by}
use Rattle.asm_layout.specs.Value.{Names}
use Rattle.asm_layout.proofs.OutcomeLemmas.{any_then, if_chosen, if_in_line, if_other, if_then}
use Rattle.asm_layout.specs.Limits.{section_limit}

total-append : (section : Section) (ps : List Placed) (p : Placed) → total section (ps ++ p ∷ []) ≡ total section ps + length_in section p.section (content_length p.content)
total-append section [] p = omega arith
total-append section (q ∷ ps) p = let rest = total-append section ps p in omega arith

HasStart-later : (place : ℕ) (ps : List Placed) (p : Placed) → HasStart place ps → HasStart place (ps ++ p ∷ [])
HasStart-later place [] p none = absurd none
HasStart-later place (q ∷ ps) p (inl here) = inl here
HasStart-later place (q ∷ ps) p (inr later) = inr (HasStart-later place ps p later)

HasStart-last : (place : ℕ) (ps : List Placed) (p : Placed) → p.is_start ≡ true → p.place ≡ place → HasStart place (ps ++ p ∷ [])
HasStart-last place [] p starts is = inl (starts, is)
HasStart-last place (q ∷ ps) p starts is = inr (HasStart-last place ps p starts is)

StartIn-later : (start : Option ℕ) (ps : List Placed) (p : Placed) → StartIn start ps → StartIn start (ps ++ p ∷ [])
StartIn-later None ps p has = tt
StartIn-later (Some place) ps p has = HasStart-later place ps p has

-- the sections are within their limit, and as long as what stands in them
abbrev IsSized : Layout → Type 0
IsSized layout = (section : Section) → (used_by section layout ≤ section_limit) × (used_by section layout ≡ total section layout.placed)

-- The parts of a layout that is laid. They hold whatever its names and the section for what comes.
abbrev HasParts : Layout → Type 0
HasParts layout = IsSized layout × StartIn layout.start layout.placed

-- what is laid, where the next statement's label may be `start`
abbrev IsReady : Bool → Layout → Type 0
IsReady starts layout = IsSized layout × ((p : Placed) → p.is_start ≡ starts → p.place ≡ place_of layout → StartIn layout.start (layout.placed ++ p ∷ []))

-- one statement more in a section that has room for it
grown_sized : (section other : Section) (p : Placed) (layout : Layout) → p.section ≡ section → content_length p.content ≤ section_limit - used_by section layout → IsSized layout
    → let after = grown_by section (content_length p.content) (record layout { placed = layout.placed ++ p ∷ [] }) in (used_by other after ≤ section_limit) × (used_by other after ≡ total other after.placed)
grown_sized Text Text p layout is room sized = let s = sized Text in rw (total-append Text layout.placed p, is) (omega arith, omega arith)
grown_sized Text Data p layout is room sized = let s = sized Data in rw (total-append Data layout.placed p, is) (omega arith, omega arith)
grown_sized Data Text p layout is room sized = let s = sized Text in rw (total-append Text layout.placed p, is) (omega arith, omega arith)
grown_sized Data Data p layout is room sized = let s = sized Data in rw (total-append Data layout.placed p, is) (omega arith, omega arith)

grown_start : (section : Section) (n : ℕ) (layout : Layout) → StartIn layout.start layout.placed → StartIn (grown_by section n layout).start (grown_by section n layout).placed
grown_start Text n layout has = has
grown_start Data n layout has = has

appended_laid : (line : ℕ) (starts : Bool) (content : Content) (layout : Layout) → IsReady starts layout → nat_le (content_length content) (section_limit - used_by layout.section layout) ≡ true
    → HasParts (appended line starts content layout)
appended_laid line starts content layout ready fits =
    let p : Placed = record { line = line; section = layout.section; place = place_of layout; is_start = starts; content = content } in
    ((λ section. grown_sized layout.section section p layout refl (leb-true _ _ fits) ready.0), grown_start layout.section _ _ (ready.1 p refl refl))

put_laid : (line : ℕ) (starts : Bool) (content : Content) (layout : Layout) → IsReady starts layout → IfOk (put line starts content layout) HasParts
put_laid line starts content layout ready = search (if_chosen, appended_laid line starts content layout ready)

-- a name changes nothing else
named_any : (P : Layout → Type 0) (name : List ℕ) (value : ℕ) (layout : Layout) → ((names : Names) → P (record layout { names = names })) → IfOk (with_name name value layout) P
named_any P name value layout any = search (if_other, any)

equated_any : (P : Layout → Type 0) (name : List ℕ) (e : ExpressionValue) (layout : Layout) → ((names : Names) → P (record layout { names = names })) → IfOk (equated name e layout) P
equated_any P name e layout any = search (if_other, any_then, named_any P, any)

acted_laid : (line : ℕ) (starts : Bool) (action : Action) (layout : Layout) → IsReady starts layout → IfOk (acted line starts action layout) HasParts
unfolding acted
acted_laid line starts (Put content) layout ready = put_laid line starts content layout ready
acted_laid line starts (Align n) layout ready = search (if_chosen, put_laid, ready)
acted_laid line starts (Enter section) layout ready = if_then HasParts HasParts _ _ (put_laid line starts (Given []) layout ready) (λ after parts. parts)
acted_laid line starts (Define name e) layout ready =
    if_then (IsReady starts) HasParts _ _ (equated_any (IsReady starts) name e layout (λ names. ready)) (λ after. put_laid line starts (Given []) after)

started_ready : (starts : Bool) (layout : Layout) → HasParts layout → IsReady starts (started starts (place_of layout) layout)
started_ready true layout parts = (parts.0, λ p starts is. HasStart-last (place_of layout) layout.placed p starts is)
started_ready false layout parts = (parts.0, λ p _ _. StartIn-later layout.start layout.placed p parts.1)

labelled_ready : (label : Option (List ℕ)) (layout : Layout) → HasParts layout → IfOk (labelled label layout) (IsReady (is_start label))
labelled_ready None layout parts = started_ready false layout parts
labelled_ready (Some name) layout parts =
    let Ready = IsReady (is_start (Some name)) in
    if_then (λ after. Ready (started (is_start (Some name)) (place_of layout) after)) Ready _ _
    (named_any _ name (place_of layout) layout (λ names. started_ready (is_start (Some name)) (record layout { names = names }) parts))
    (λ after ready. ready)

stated_laid : (statement : AsmLine) (layout : Layout) → HasParts layout → IfOk (stated statement layout) HasParts
unfolding stated
stated_laid statement layout parts =
    let starts = is_start statement.label in
    any_then HasParts (action_of layout.section statement.body) _ (λ action.
    if_then (IsReady starts) HasParts _ _ (labelled_ready statement.label layout parts) (λ after. acted_laid statement.line starts action after))

added_laid : (said : Option AsmLine) (layout : Layout) → HasParts layout → IfOk (added said layout) HasParts
added_laid None layout parts = parts
added_laid (Some statement) layout parts = if_in_line HasParts statement.line _ (stated_laid statement layout parts)

laid_from_laid : (layout : Layout) (lines : List LineValue) → HasParts layout → IfOk (laid_from layout lines) HasParts
laid_from_laid layout [] parts = parts
laid_from_laid layout (line ∷ lines) parts =
    if_then HasParts HasParts (line_added line layout) _
    (any_then HasParts (due_of line) _ (λ said. added_laid said layout parts))
    (λ after. laid_from_laid after lines)

nothing_sized : (section : Section) → (used_by section nothing_placed ≤ section_limit) × (used_by section nothing_placed ≡ 0)
nothing_sized Text = (lit≤ tt, refl)
nothing_sized Data = (lit≤ tt, refl)

-- each layout of the first pass
pub laid_laid : (source : List ℕ) → IfOk (laid source) IsLaid
unfolding laid
laid_laid source =
    IfOk-weaker _ HasParts IsLaid (λ layout parts. record { fits = λ section. (parts.0 section).0; is = λ section. (parts.0 section).1; start_is = parts.1 })
    (laid_from_laid nothing_placed (lines_of source) ((λ section. nothing_sized section), tt))
