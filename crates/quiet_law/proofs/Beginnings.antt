-- Lists that begin others.
use Rattle.std.proofs.Common.{◌≡◌, List, [], ◌∷◌, ◌++◌, inl, inr, drop, refl, sym, ◌∙◌, ap, append_assoc}
use Rattle.std.specs.Prelude.{get_or}
use Rattle.std.proofs.lemmas.List.{append-nil}
use Rattle.quiet_law.specs.Beginning.{IsBeginning, NeverDiffer}

pub begins_same : {A : Type 0} (xs ys : List A) → xs ≡ ys → IsBeginning xs ys
begins_same xs ys same = record { rest = []; is = append-nil xs ∙ same }

-- more comes at the end
pub begins_more : {A : Type 0} (xs ys : List A) → IsBeginning xs ys → (zs : List A) → IsBeginning xs (ys ++ zs)
begins_more xs ys b zs = record { rest = b.rest ++ zs; is = sym (append_assoc xs b.rest zs) ∙ ap (λ ws. ws ++ zs) b.is }

pub begins_further : {A : Type 0} (xs ys zs : List A) → IsBeginning xs ys → IsBeginning ys zs → IsBeginning xs zs
begins_further xs ys zs first next = record { rest = first.rest ++ next.rest; is = sym (append_assoc xs first.rest next.rest) ∙ ap (λ ws. ws ++ next.rest) first.is ∙ next.is }

-- two that begin one list
one_more : {A : Type 0} (x y : A) (xs ys : List A) → x ≡ y → NeverDiffer xs ys → NeverDiffer (x ∷ xs) (y ∷ ys)
one_more x y xs ys same (inl b) = inl (record { rest = b.rest; is = ap (λ z. z ∷ (xs ++ b.rest)) same ∙ ap (λ zs. y ∷ zs) b.is })
one_more x y xs ys same (inr b) = inr (record { rest = b.rest; is = ap (λ z. z ∷ (ys ++ b.rest)) (sym same) ∙ ap (λ zs. x ∷ zs) b.is })

pub never_differ : {A : Type 0} (xs ys more less : List A) → xs ++ more ≡ ys ++ less → NeverDiffer xs ys
never_differ [] ys more less is = inl (record { rest = ys; is = refl })
never_differ (x ∷ xs) [] more less is = inr (record { rest = x ∷ xs; is = refl })
never_differ (x ∷ xs) (y ∷ ys) more less is =
    one_more x y xs ys (ap (λ zs. get_or zs 0 x) is) (never_differ xs ys more less (ap (drop 1) is))
