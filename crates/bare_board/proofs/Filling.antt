-- Pages that get their parts of a file, one after another.
use Rattle.std.proofs.Common.{arith, ap, ◌∙◌, ◌≡◌, ◌≢◌, ◌<◌, ◌≤◌, ◌+◌, ◌-◌, ◌*◌, min, ℕ, List, [], length, get_or, take, drop, length-set, get_or-set_same, get_or-set_other, inl, inr}
use Rattle.std.proofs.lemmas.Bool.{cases_eq}
use Rattle.std.proofs.lemmas.List.{take_all, take_min, drop_min, length-drop, get_or-replicate, length-replicate}
use Rattle.std.proofs.lemmas.List.FromFn.{fill_by_all}
use Rattle.aegis_limits.specs.Limits.{page_size}
use Rattle.frame_store.specs.Pages.{after_put, page_at, with_bytes, zero_page, zeroed}
use Rattle.bare_board.specs.Loading.{bare_pages, file_page, loaded}

-- the first pages, so many, have their parts; the others are zeros
pub record IsLoadedTo (file : List ℕ) (n : ℕ) (frames : List (List ℕ)) : Type 0 where
  pub count : length frames ≡ bare_pages
  pub done : (k : ℕ) → k < n → get_or frames k [] ≡ file_page file k
  pub left : (k : ℕ) → n ≤ k → k < bare_pages → get_or frames k [] ≡ zero_page

pub none_loaded : (file : List ℕ) → IsLoadedTo file 0 (zeroed bare_pages)
none_loaded file = record {
  count = length-replicate {A = List ℕ} bare_pages zero_page;
  done = λ k below. absurd (omega (arith, below));
  left = λ k _ within. get_or-replicate bare_pages k zero_page [] within;
}

pub one_page_more : (file part : List ℕ) (n : ℕ) (frames : List (List ℕ)) → n < bare_pages → IsLoadedTo file n frames
    → part ≡ take page_size (drop (n * page_size) file) → IsLoadedTo file (n + 1) (after_put frames n 0 part)
unfolding file_page
one_page_more file part n frames within so_far is =
    let page = with_bytes (page_at frames n) 0 part in
    let here : n < length frames = omega (arith, so_far.count) in
    let blank : page_at frames n ≡ zero_page = so_far.left n (omega arith) within in
    let put : page ≡ file_page file n = ap (λ (p : List ℕ). with_bytes p 0 part) blank ∙ ap (with_bytes zero_page 0) is in
    record {
      count = length-set frames n page ∙ so_far.count;
      done = λ k below. elim (cases_eq k n) [
        | inl same ↦ rw same (get_or-set_same frames n page [] here ∙ put)
        | inr other ↦ get_or-set_other frames n k page [] other ∙ so_far.done k (omega (arith, below, other))
      ];
      left = λ k above in_pages. let other : k ≢ n = omega (arith, above) in get_or-set_other frames n k page [] other ∙ so_far.left k (omega (arith, above)) in_pages;
    }

pub all_loaded : (file : List ℕ) (n : ℕ) (frames : List (List ℕ)) → bare_pages ≤ n → IsLoadedTo file n frames → frames ≡ loaded file
all_loaded file n frames all so_far = fill_by_all (file_page file) frames bare_pages [] so_far.count (λ k below. so_far.done k (omega (arith, below)))

-- the part of a file that is in a page
pub part_cut : (size at from count : ℕ) (file : List ℕ) → from ≡ min at (length file)
    → count ≡ min size (length (take (length file - from) (drop from file)))
    → take count (take (length file - from) (drop from file)) ≡ take size (drop at file)
part_cut size at from count file start cut =
    let rest : take (length file - from) (drop from file) ≡ drop from file = take_all (length file - from) (drop from file) (omega (arith, length-drop from file)) in
    let same : drop from file ≡ drop at file = ap (λ (n : ℕ). drop n file) start ∙ drop_min at file in
    let most : count ≡ min size (length (drop at file)) = cut ∙ ap (λ (bytes : List ℕ). min size (length bytes)) (rest ∙ same) in
    ap (take count) (rest ∙ same) ∙ ap (λ (n : ℕ). take n (drop at file)) most ∙ take_min size (drop at file)
