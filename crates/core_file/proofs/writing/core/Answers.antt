-- The pages and the runs are those that the environment sees.
use Rattle.std.proofs.Common.{◌≡◌, ◌++◌, ℕ, List, [], sym, ◌∙◌, ap, subst}
use Rattle.world_model.specs.Solo.{sight}
use Rattle.core_file.specs.Core.{core_text, headers_text, pages_text}
use Rattle.core_file.specs.Notes.{notes_text}
use Rattle.core_file.specs.Pages.{pages_seen}
use Rattle.core_file.specs.Runs.{runs_of}
use Rattle.core_file.specs.Seen.{FitsWords, pages_shown}
use Rattle.core_file.proofs.Adding.{are_writable, few_shown}
use Rattle.core_file.proofs.Few.{few_headers}
use Rattle.core_file.proofs.writing.core.Goals as goal

pub runs_of-requires : goal.runs_of-requires
runs_of-requires g c =
    let look = sight ((g.V.WorldView.world c.args.view.now).solos c.args.env) in
    let shown : pages_shown c.deref.result.now ≡ pages_seen look = ap pages_shown c.deref.ensures.value ∙ c.in_ok-pages.ensures in
    few_shown c.deref.result.now look shown

pub push_headers-requires : goal.push_headers-requires
push_headers-requires g c =
    let look = sight ((g.V.WorldView.world c.args.view.now).solos c.args.env) in
    let shown : pages_shown c.deref.result.now ≡ pages_seen look = ap pages_shown c.deref.ensures.value ∙ c.in_ok-pages.ensures in
    let runs : c.deref-2.result.now ≡ runs_of (pages_seen look) = c.deref-2.ensures.value ∙ c.in_ok-runs.ensures ∙ ap runs_of shown in
    subst FitsWords (sym runs) (are_writable look)

-- parts that are written one after another
joined : (a b c o p q r : List ℕ) → o ≡ [] → p ≡ o ++ a → q ≡ p ++ b → r ≡ q ++ c → r ≡ a ++ b ++ c
joined a b c o p q r none first second third =
    third ∙ ap (λ (xs : List ℕ). xs ++ c) (second ∙ ap (λ (xs : List ℕ). xs ++ b) (first ∙ ap (λ (xs : List ℕ). xs ++ a) none))

pub returns-clause-file : goal.returns-clause-file
unfolding core_text
returns-clause-file g c =
    let w = g.V.WorldView.world c.args.view.now in
    let look = sight (w.solos c.args.env) in
    let shown : pages_shown c.deref.result.now ≡ pages_seen look = ap pages_shown c.deref.ensures.value ∙ c.in_ok-pages.ensures in
    let runs : c.deref-2.result.now ≡ runs_of (pages_seen look) = c.deref-2.ensures.value ∙ c.in_ok-runs.ensures ∙ ap runs_of shown in
    let last : pages_shown c.deref-3.result.now ≡ pages_seen look = ap pages_shown c.deref-3.ensures.value ∙ c.in_ok-pages.ensures in
    joined (headers_text (runs_of (pages_seen look))) (notes_text w c.args.env) (pages_text (pages_seen look)) _ _ _ _
    c.new-file.ensures.items
    (c.in_ok-push_headers.ensures ∙ ap (λ rs. c.new-file.result.items ++ headers_text rs) runs)
    c.in_ok-push_notes.ensures
    (c.in_ok-push_pages.ensures ∙ ap (λ ps. c.push_notes.new.file.items ++ pages_text ps) last)

pub returns-clause-headers : goal.returns-clause-headers
returns-clause-headers g c = few_headers (g.V.WorldView.world c.args.view.now) c.args.env
