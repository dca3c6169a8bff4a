-- What is answered of a quiet environment.
use Rattle.std.proofs.Common.{◌≡◌, ◌≤◌, ◌∙◌, ℕ, List, false, Option, Some, None, ap, arith, refl, sym}
use Rattle.machine_text.specs.Fingerprint.{fingerprint}
use Rattle.world_model.specs.Item.{Item}
use Rattle.run_model.specs.Run.{System, feed, world_after}
use Rattle.run_report.specs.Report.{env_text}
use Rattle.quiet_law.specs.Quiet.{IsQuiet, IsQuietInBoth, QuietIsSame}
use Rattle.quiet_law.specs.Twin.{QuietIsShownAlike}
use Rattle.twin_run.specs.declared.answer.TwinAnswer.TheVariants.{Same}
use Rattle.twin_run.specs.Answer.{answer_by, compared, end_in_time, first_difference}
use Rattle.twin_law.specs.TwinAnswers.{TwinOfQuiet, TwinShowsQuiet, names_difference}
use Rattle.twin_law.proofs.Ends.{is_end}
use Rattle.twin_law.proofs.Firsts.{same_differ_nowhere, settled}

-- what is quiet in more ticks is so in fewer
quiet_before : (s : System) (e most t : ℕ) → t ≤ most → IsQuiet s e most → IsQuiet s e t
quiet_before s e most t before quiet = record {
  calls = λ u c below acts. quiet.calls u c (omega (arith, below, before)) acts;
  accepts_nobody = quiet.accepts_nobody;
  unasked = λ u below. quiet.unasked u (omega (arith, below, before));
}

both_before : (left right : System) (e most t u : ℕ) → t ≤ most → u ≤ most → IsQuietInBoth left right e most most → IsQuietInBoth left right e t u
both_before left right e most t u left_before right_before both = record {
  record_same = both.record_same;
  quantum_same = both.quantum_same;
  quantum_some = both.quantum_some;
  left_quiet = quiet_before left e most t left_before both.left_quiet;
  right_quiet = quiet_before right e most u right_before both.right_quiet;
}

-- the same feeds differ nowhere
nowhere : (xs ys : List Item) → xs ≡ ys → first_difference xs ys ≡ None
nowhere xs ys same = ap (first_difference xs) (sym same) ∙ same_differ_nowhere xs

module _ (feeds : QuietIsSame) where
  none_differs : (left right : System) (e n most t u : ℕ) → IsQuietInBoth left right e t u → end_in_time left e n most ≡ Some t → end_in_time right e n most ≡ Some u
      → first_difference (feed left e t) (feed right e u) ≡ None
  none_differs left right e n most t u both left_end right_end =
      nowhere (feed left e t) (feed right e u) (feeds left right e n t u both (is_end left e n most t left_end).0 (is_end right e n most u right_end).0)

  pub of_quiet : TwinOfQuiet
  of_quiet left right e n most both = by_ends (end_in_time left e n most) (end_in_time right e n most) refl refl
    where
      by_ends : (o p : Option ℕ) → end_in_time left e n most ≡ o → end_in_time right e n most ≡ p → names_difference (answer_by left right e most o p) ≡ false
      by_ends None p left_end right_end = refl
      by_ends (Some t) None left_end right_end = refl
      by_ends (Some t) (Some u) left_end right_end =
          let before = both_before left right e most t u (is_end left e n most t left_end).1 (is_end right e n most u right_end).1 both in
          ap (λ (o : Option ℕ). names_difference (compared (feed left e t) (feed right e u) (env_text (world_after left t) e) o))
          (none_differs left right e n most t u before left_end right_end)

  pub shows_quiet : QuietIsShownAlike → TwinShowsQuiet
  shows_quiet shown left right e n most t u both left_end right_end =
      settled left right e n most t u left_end right_end
      ∙ ap (compared (feed left e t) (feed right e u) (env_text (world_after left t) e)) (none_differs left right e n most t u both left_end right_end)
      ∙ ap (λ (lines : List ℕ). Same (fingerprint lines)) (shown left right e n t u both (is_end left e n most t left_end).0 (is_end right e n most u right_end).0)
