-- Rows stay coherent where mappings come, and where those go whose rows are emptied.
use Rattle.std.proofs.Common.{◌≡◌, ℕ, Bool, true, false, List, [], ◌∷◌, Option, Some, None, refl, sym, ◌∙◌, ap, rules, if◌then◌else◌}
use Rattle.std.proofs.lemmas.List.Elements.{All-map, All-weaker}
use Rattle.env_frames.specs.declared.mapping.Mapping.{Mapping}
use Rattle.r3k_tlb.specs.declared.row.Row.{Row}
use Rattle.r3k_tlb.specs.Row.{emptied_row}
use Rattle.r3k_tlb.specs.Rows.{emptied_if, emptied_where}
use Rattle.tlb_model.specs.Cache.{row_for}
use Rattle.tlb_model.specs.Flushes.{Flush, flushed, is_flushed}
use Rattle.tlb_model.specs.Coherence.{AreCoherent, Emptied, Held, Holds, IsCoherent}
use Rattle.tlb_model.specs.Laws.{AreKept, AreKeptBut, EmptiedAreCoherent, GrownAreCoherent, is_any_flushed}

grown_row : (old new : ℕ → ℕ → Option Mapping) (pages : ℕ) (row : Row) → AreKept old new → IsCoherent old pages row → IsCoherent new pages row
grown_row old new pages row kept (Emptied is) = Emptied is
grown_row old new pages row kept (Held x) = Held (record {
  env = x.env;
  numbered = x.numbered;
  mapping = x.mapping;
  below = x.below;
  there = x.there;
  mapped = kept x.env x.mapping x.mapped;
  words = x.words;
})

pub grown : GrownAreCoherent
grown old new pages rows all kept =
    All-weaker (IsCoherent old pages) (IsCoherent new pages) (λ row. grown_row old new pages row kept) rows all

-- the look-up without the mappings whose rows are emptied
abbrev left_of : Flush → ℕ → Option Mapping → Option Mapping
left_of f e None = None
left_of f e (Some m) = if is_flushed f (row_for e m) then None else Some m

abbrev without : Flush → (ℕ → ℕ → Option Mapping) → ℕ → ℕ → Option Mapping
without f leads e vpn = left_of f e (leads e vpn)

left_if : (b : Bool) (m n : Mapping) → (if b then None else Some m) ≡ Some n → (b ≡ false) × (m ≡ n)
left_if true m n h = search rules
left_if false m n h = search rules

left_some : (f : Flush) (e : ℕ) (o : Option Mapping) (n : Mapping) → left_of f e o ≡ Some n → (o ≡ Some n) × (is_flushed f (row_for e n) ≡ false)
left_some f e None n h = search rules
left_some f e (Some m) n h =
    let both = left_if (is_flushed f (row_for e m)) m n h in
    (ap Some both.1, ap (λ x. is_flushed f (row_for e x)) (sym both.1) ∙ both.0)

held_left : (leads : ℕ → ℕ → Option Mapping) (f : Flush) (e : ℕ) (m : Mapping) → leads e m.vpn ≡ Some m → is_flushed f (row_for e m) ≡ false
    → without f leads e m.vpn ≡ Some m
held_left leads f e m is h = ap (left_of f e) is ∙ ap (λ (b : Bool). if b then None else Some m) h

emptied_held : (old : ℕ → ℕ → Option Mapping) (f : Flush) (pages : ℕ) (row : Row) (b : Bool) → Holds old pages row → is_flushed f row ≡ b
    → IsCoherent (without f old) pages (if b then emptied_row else row)
emptied_held old f pages row true x is = Emptied refl
emptied_held old f pages row false x is = Held (record {
  env = x.env;
  numbered = x.numbered;
  mapping = x.mapping;
  below = x.below;
  there = x.there;
  mapped = held_left old f x.env x.mapping x.mapped (ap (is_flushed f) (sym x.words) ∙ is);
  words = x.words;
})

emptied_nothing : (new : ℕ → ℕ → Option Mapping) (pages : ℕ) (row : Row) (b : Bool) → row ≡ emptied_row → IsCoherent new pages (if b then emptied_row else row)
emptied_nothing new pages row true is = Emptied refl
emptied_nothing new pages row false is = Emptied is

emptied_one : (old : ℕ → ℕ → Option Mapping) (f : Flush) (pages : ℕ) (row : Row) → IsCoherent old pages row
    → IsCoherent (without f old) pages (emptied_if (is_flushed f) row)
emptied_one old f pages row (Emptied is) = emptied_nothing (without f old) pages row (is_flushed f row) is
emptied_one old f pages row (Held x) = emptied_held old f pages row (is_flushed f row) x refl

emptied_by : (old : ℕ → ℕ → Option Mapping) (f : Flush) (pages : ℕ) (rows : List Row) → AreCoherent old pages rows
    → AreCoherent (without f old) pages (emptied_where (is_flushed f) rows)
emptied_by old f pages rows all =
    All-map (IsCoherent (without f old) pages) (emptied_if (is_flushed f)) rows
    (All-weaker (IsCoherent old pages) (λ row. IsCoherent (without f old) pages (emptied_if (is_flushed f) row))
    (emptied_one old f pages) rows all)

none_flushed : (f : Flush) (fs : List Flush) (row : Row) → is_flushed f row ≡ false → is_any_flushed fs row ≡ false → is_any_flushed (f ∷ fs) row ≡ false
none_flushed f fs row here rest = search rules

kept_rest : (old new : ℕ → ℕ → Option Mapping) (f : Flush) (fs : List Flush) → AreKeptBut (f ∷ fs) old new → AreKeptBut fs (without f old) new
kept_rest old new f fs kept e m small below is rest =
    let both = left_some f e (old e m.vpn) m is in kept e m small below both.0 (none_flushed f fs (row_for e m) both.1 rest)

kept_by_nothing : (old new : ℕ → ℕ → Option Mapping) (pages : ℕ) (row : Row) → AreKeptBut [] old new → IsCoherent old pages row → IsCoherent new pages row
kept_by_nothing old new pages row kept (Emptied is) = Emptied is
kept_by_nothing old new pages row kept (Held x) = Held (record {
  env = x.env;
  numbered = x.numbered;
  mapping = x.mapping;
  below = x.below;
  there = x.there;
  mapped = kept x.env x.mapping x.numbered x.below x.mapped refl;
  words = x.words;
})

pub emptied : EmptiedAreCoherent
emptied old new [] pages rows all kept =
    All-weaker (IsCoherent old pages) (IsCoherent new pages) (λ row. kept_by_nothing old new pages row kept) rows all
emptied old new (f ∷ fs) pages rows all kept =
    emptied (without f old) new fs pages (flushed rows f) (emptied_by old f pages rows all) (kept_rest old new f fs kept)
