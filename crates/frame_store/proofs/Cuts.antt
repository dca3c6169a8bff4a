-- Bytes cut into pages. Sizes are parameters, since a list isn't to be taken at a numeral.
use Rattle.std.proofs.Common.{◌≡◌, ℕ, ◌+◌, ◌-◌, ◌*◌, ◌<◌, ◌≤◌, List, [], ◌∷◌, ◌++◌, length, get_or, take, drop, set, replicate, zero, suc, refl, sym, ap, ap₂, ◌∙◌, arith, length-drop, length-take, length-append}
use Rattle.std.proofs.lemmas.List.{nil_from_length, take-append-drop, drop-drop, take_at, drop_at, take-take, take-append-le, drop-append-le, drop-take, drop_all, append-nil, append_assoc, length-take-le, take-replicate, drop-replicate}
use Rattle.std.specs.List.{concat}
use Rattle.frame_store.specs.Memory.{pages_of}
use Rattle.frame_store.specs.Pages.{with_bytes}

-- as many pages as were asked for
pub length-pages_of : (size count : ℕ) (bytes : List ℕ) → length (pages_of size count bytes) ≡ count
length-pages_of size zero bytes = refl
length-pages_of size (suc count) bytes = ap (λ (n : ℕ). suc n) (length-pages_of size count (drop size bytes))

-- the page with a number begins so many sizes of a page behind the first byte
pub get_or-pages_of : (size count n at : ℕ) (bytes : List ℕ) → n < count → at ≡ n * size → get_or (pages_of size count bytes) n [] ≡ take size (drop at bytes)
get_or-pages_of size zero n at bytes below place = absurd (omega arith)
get_or-pages_of size (suc count) zero at bytes below place =
    let first : 0 ≡ at = omega arith in
    ap (λ (k : ℕ). take size (drop k bytes)) first
get_or-pages_of size (suc count) (suc n) at bytes below place =
    let next : size + (at - size) ≡ at = omega arith in
    get_or-pages_of size count n (at - size) (drop size bytes) (omega arith) (omega arith) ∙ ap (take size) (drop-drop (at - size) size bytes ∙ ap (λ (k : ℕ). drop k bytes) next)

-- zeros are cut into pages of zeros
pub pages_of-replicate : (size count : ℕ) → pages_of size count (replicate (count * size) 0) ≡ replicate count (replicate size 0)
pages_of-replicate size zero = refl
pages_of-replicate size (suc count) =
    let rest : suc count * size - size ≡ count * size = omega arith in
    ap₂ ◌∷◌ (take-replicate size (suc count * size) 0 (omega arith))
    (ap (pages_of size count) (drop-replicate size (suc count * size) 0 ∙ ap (λ (k : ℕ). replicate k 0) rest) ∙ pages_of-replicate size count)

-- the same, as a list in three parts
pub pages_of-paste : (size count n at : ℕ) (bytes page : List ℕ) → n < count → at ≡ n * size → count * size ≤ length bytes → length page ≡ size
    → pages_of size count (take at bytes ++ (page ++ drop (length page) (drop at bytes))) ≡ set (pages_of size count bytes) n page
pages_of-paste size zero n at bytes page below place long whole = absurd (omega arith)
pages_of-paste size (suc count) zero at bytes page below place long whole =
    let first : at ≡ 0 = omega arith in
    ap (λ (k : ℕ). pages_of size (suc count) (take k bytes ++ (page ++ drop (length page) (drop k bytes)))) first
    ∙ ap₂ ◌∷◌ (take_at page (drop (length page) bytes) size whole)
    (ap (pages_of size count) (drop_at page (drop (length page) bytes) size whole ∙ ap (λ (k : ℕ). drop k bytes) whole))
pages_of-paste size (suc count) (suc n) at bytes page below place long whole =
    let next : at ≡ size + (at - size) = omega arith in
    let all : size ≤ length bytes = omega arith in
    let fore = take at bytes in
    let rest = page ++ drop (length page) (drop at bytes) in
    let enough : size ≤ length fore = grind (arith, length-take at bytes) in
    let front : drop size fore ≡ take (at - size) (drop size bytes) = ap (λ (k : ℕ). drop size (take k bytes)) next ∙ drop-take size (at - size) bytes in
    let behind : drop at bytes ≡ drop (at - size) (drop size bytes) = ap (λ (k : ℕ). drop k bytes) next ∙ sym (drop-drop (at - size) size bytes) in
    ap₂ ◌∷◌
    (take-append-le size fore rest enough ∙ take-take size at bytes (omega arith))
    (ap (pages_of size count) (drop-append-le size fore rest enough ∙ ap₂ (λ (x y : List ℕ). x ++ (page ++ drop (length page) y)) front behind)
    ∙ pages_of-paste size count n (at - size) (drop size bytes) page (omega arith) (omega arith) (omega (arith, length-drop size bytes)) whole)

-- a page that is seen is one of those that were cut
pub below_count : (size count n : ℕ) (bytes : List ℕ) (pages : List (List ℕ)) → pages_of size count bytes ≡ pages → n < length pages → n < count
below_count size count n bytes pages seen below = let long : length pages ≡ count = ap length (sym seen) ∙ length-pages_of size count bytes in omega arith

-- so many pages need no bytes behind them
pub pages_of-take : (size count n : ℕ) (bytes : List ℕ) → count * size ≤ n → pages_of size count (take n bytes) ≡ pages_of size count bytes
pages_of-take size zero n bytes enough = refl
pages_of-take size (suc count) n bytes enough =
    let next : n ≡ size + (n - size) = omega arith in
    ap₂ ◌∷◌ (take-take size n bytes (omega arith))
    (ap (pages_of size count) (ap (λ (k : ℕ). drop size (take k bytes)) next ∙ drop-take size (n - size) bytes) ∙ pages_of-take size count (n - size) (drop size bytes) (omega arith))

-- the pages, joined, are the bytes
pub concat-pages_of : (size count : ℕ) (bytes : List ℕ) → length bytes ≡ count * size → concat (pages_of size count bytes) ≡ bytes
concat-pages_of size zero bytes whole = sym (nil_from_length bytes (omega arith))
concat-pages_of size (suc count) bytes whole =
    ap (λ (rest : List ℕ). take size bytes ++ rest) (concat-pages_of size count (drop size bytes) (omega (arith, length-drop size bytes))) ∙ take-append-drop size bytes

-- bytes that were put stand between those before them and those behind
put_is : (bytes page : List ℕ) (at : ℕ) → take at bytes ++ (page ++ drop (length page) (drop at bytes)) ≡ with_bytes bytes at page
put_is bytes page at =
    ap (λ (rest : List ℕ). take at bytes ++ (page ++ rest)) (drop-drop (length page) at bytes)
    ∙ sym (append_assoc (take at bytes) page (drop (at + length page) bytes))

-- what is left of a lent part stands where it was lent, in whatever length
pub pages_of-lent : (size count at len : ℕ) (bytes part : List ℕ) → len ≡ length bytes → length bytes ≡ count * size
    → pages_of size count (take len ((take at bytes ++ (part ++ drop (length part) (drop at bytes))) ++ drop (length (take at bytes ++ (part ++ drop (length part) (drop at bytes)))) bytes))
    ≡ pages_of size count (with_bytes bytes at part)
pages_of-lent size count at len bytes part room whole =
    let all = take at bytes ++ (part ++ drop (length part) (drop at bytes)) in
    let long : length bytes ≤ length all = grind (
      arith,
      length-append (take at bytes) (part ++ drop (length part) (drop at bytes)),
      length-append part (drop (length part) (drop at bytes)),
      length-drop (length part) (drop at bytes),
      length-drop at bytes,
      length-take at bytes,
    ) in
    pages_of-take size count len (all ++ drop (length all) bytes) (omega arith)
    ∙ ap (pages_of size count) (ap (λ (rest : List ℕ). all ++ rest) (drop_all (length all) bytes long) ∙ append-nil all ∙ put_is bytes part at)

-- bytes put into memory, by the pages that are seen of it
pub pages_of-seen : (size count at : ℕ) (bytes part : List ℕ) (pages : List (List ℕ)) → pages_of size count bytes ≡ pages → length bytes ≡ count * size
    → pages_of size count (with_bytes bytes at part) ≡ pages_of size (length pages) (with_bytes (concat pages) at part)
pages_of-seen size count at bytes part pages seen whole =
    ap₂ (λ (k : ℕ) (all : List ℕ). pages_of size k (with_bytes all at part)) (sym (length-pages_of size count bytes) ∙ ap length seen) (sym (concat-pages_of size count bytes whole) ∙ ap concat seen)

-- a page's bytes, put where a page begins, are this page
pub pages_of-with_page : (size count n at : ℕ) (bytes page : List ℕ) → n < count → at ≡ n * size → length bytes ≡ count * size → length page ≡ size
    → pages_of size count (with_bytes bytes at page) ≡ set (pages_of size count bytes) n page
pages_of-with_page size count n at bytes page below place whole long =
    ap (pages_of size count) (sym (put_is bytes page at)) ∙ pages_of-paste size count n at bytes page below place (omega arith) long

-- bytes that were copied to another place
pub copied_is : (from to k : ℕ) (bytes : List ℕ) → from + k ≤ length bytes
    → take to bytes ++ take k (drop from bytes) ++ drop (to + k) bytes ≡ with_bytes bytes to (take k (drop from bytes))
copied_is from to k bytes within =
    let long : length (take k (drop from bytes)) ≡ k = length-take-le k (drop from bytes) (omega (arith, length-drop from bytes)) in
    ap (λ (n : ℕ). take to bytes ++ take k (drop from bytes) ++ drop (to + n) bytes) (sym long)
