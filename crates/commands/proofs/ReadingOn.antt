-- Reads one after another.
use Rattle.std.proofs.Common.{◌≡◌, ℕ, zero, suc, ◌+◌, ◌≤◌, List, [], ◌∷◌, ◌++◌, Option, Some, None, IfSome, drop, length, map, take, Result, Ok, Err, IfErr, IsErrAnd, refl, sym, ◌∙◌, ap, subst, arith, add-one, append_assoc}
use Rattle.std.specs.Prelude.{◌<◌, String, slice_get, slice_index_or, string_bytes}
use Rattle.std.specs.Global.{Global}
use Rattle.std.specs.List.{AllByRecursion}
use Rattle.std.proofs.lemmas.List.{length-append, take-append-drop, take-append-le}
use Rattle.std.proofs.Math.Seq.{drop-append_seam, take-append_seam}
use Rattle.edge_io.specs.Faults.{one_more, raised}
use Rattle.edge_io.specs.Reads.{AddsRead, Gains, OnFailed, Tells}
use Rattle.edge_io.specs.declared.shelf.ReadFail.{ReadFail}
use Rattle.edge_io.specs.declared.shelf.ReadFail.TheVariants.{Failed, OutOfMemory}
use Rattle.edge_io.specs.declared.shelf.Shelf.{Ghosts as OfShelf}
use Rattle.commands.specs.declared.work.Answer.{Answer}
use Rattle.commands.specs.declared.work.Stop.{Stop}
use Rattle.commands.specs.declared.work.Stop.TheVariants as stop
use Rattle.commands.specs.Command.{CommandValue, IsShort, names_of}
use Rattle.commands.specs.Due.{Due}
use Rattle.commands.specs.Edges.{ShelfEdge, shelf_edge}
use Rattle.commands.specs.Files.{Names, AreFirst, AreRead, CameTo, Got, IsServed, WereRead, got_contents, names_so_far, next_name, reads_of}
use Rattle.commands.specs.Work.{IsSettled, Performed, Stopped, StopsByWantAlone, stop_of}

-- the name at a place of the names
pub name_at : (names : List (String Global)) (i : ℕ) (x : String Global) (name : List ℕ) → x ≡ slice_index_or names i x → name ≡ string_bytes x → i < length names
    → take (i + 1) (map string_bytes names) ≡ take i (map string_bytes names) ++ name ∷ []
name_at [] i x name is same within = absurd (omega arith)
name_at (n ∷ names) zero x name is same within = ap (λ (y : String Global). string_bytes y ∷ []) (sym is) ∙ ap (λ (bytes : List ℕ). bytes ∷ []) (sym same)
name_at (n ∷ names) (suc i) x name is same within = rw add-one (ap (λ (ns : List (List ℕ)). string_bytes n ∷ ns) (rw add-one at (name_at names i x name is same (omega (arith, within)))))

-- what is ahead of the names so far, where this name is the next of a list behind others
pub further_ahead : (first names so_far : List (List ℕ)) (i : ℕ) (name : List ℕ) → take (i + 1) names ≡ so_far ++ name ∷ [] → first ++ names ≡ (first ++ so_far) ++ name ∷ drop (i + 1) names
further_ahead first names so_far i name is =
    ap (λ (ns : List (List ℕ)). first ++ ns) (sym (take-append-drop (i + 1) names) ∙ ap (λ (ns : List (List ℕ)). ns ++ drop (i + 1) names) is ∙ append_assoc so_far (name ∷ []) _) ∙ sym (append_assoc first so_far _)

-- and where it is the next of those that the words of a command give
pub first_ahead : (c : CommandValue) (contents names so_far : List (List ℕ)) (i : ℕ) (name : List ℕ) → names ≡ c.names → take (i + 1) names ≡ so_far ++ name ∷ []
    → names_of c contents ≡ so_far ++ name ∷ (drop (i + 1) names ++ c.further (take (length c.names) contents))
first_ahead c contents names so_far i name are is =
    let more = c.further (take (length c.names) contents) in
    ap (λ (ns : List (List ℕ)). ns ++ more) (sym are ∙ further_ahead [] names so_far i name is) ∙ append_assoc so_far (name ∷ drop (i + 1) names) more

-- what was read, and then one file more
read_next : (told : Option (List ℕ → Option (List ℕ))) (names contents : List (List ℕ)) (name bytes : List ℕ) → AreRead told names contents → Tells told name bytes
    → AreRead told (names ++ name ∷ []) (contents ++ bytes ∷ [])
read_next told [] [] name bytes read tells = (tells, tt)
read_next told [] (b ∷ contents) name bytes read tells = absurd read
read_next told (n ∷ names) [] name bytes read tells = absurd read
read_next told (n ∷ names) (b ∷ contents) name bytes read tells = (read.0, read_next told names contents name bytes read.1 tells)

-- as many were read as names
pub read_length : (told : Option (List ℕ → Option (List ℕ))) (names contents : List (List ℕ)) → AreRead told names contents → length contents ≡ length names
read_length told [] [] read = refl
read_length told [] (b ∷ contents) read = absurd read
read_length told (n ∷ names) [] read = absurd read
read_length told (n ∷ names) (b ∷ contents) read = ap suc (read_length told names contents read.1)

-- one file more is short
short_next : (contents : List (List ℕ)) (bytes : List ℕ) → AllByRecursion IsShort contents → IsShort bytes → AllByRecursion IsShort (contents ++ bytes ∷ [])
short_next [] bytes all short = (short, tt)
short_next (b ∷ contents) bytes all short = (all.0, short_next contents bytes all.1 short)

-- the name behind others
get_seam : (names more : List (List ℕ)) (name : List ℕ) → slice_get (names ++ name ∷ more) (length names) ≡ Some name
get_seam [] more name = refl
get_seam (n ∷ names) more name = get_seam names more name

-- the names of a command stay, whatever is read behind those that its words give
pub names_stay : (c : CommandValue) (contents more : List (List ℕ)) → length c.names ≤ length contents → names_of c (contents ++ more) ≡ names_of c contents
names_stay c contents more enough = ap (λ (first : List (List ℕ)). c.names ++ c.further first) (take-append-le (length c.names) contents more enough)

-- the names so far are the first ones, if as many were read
so_far : (names : Names) (told : Option (List ℕ → Option (List ℕ))) (first more contents : List (List ℕ)) → names contents ≡ first ++ more → AreRead told first contents → names_so_far names contents ≡ first
so_far names told first more contents are read = rw (are, read_length told first contents read) (take-append_seam first more)

-- a stop is handed on
stops : {U : Type 0} (names : Names) (s : ShelfEdge) (why : Stop) (r : Result U Stop) → Stopped names s why → IsErrAnd r (λ w. w ≡ why) → IfErr r (Stopped names s)
stops names s why (Ok v) stopped is = tt
stops names s why (Err w) stopped is = subst (Stopped names s) (sym is) stopped

-- what was read is of the first names, where others follow those
first_read : (names : Names) (told : Option (List ℕ → Option (List ℕ))) (first more contents : List (List ℕ)) → names contents ≡ first ++ more → AreRead told first contents → AreFirst names told contents
first_read names told first more contents are read = subst (λ (ns : List (List ℕ)). AreRead told ns contents) (sym (so_far names told first more contents are read)) read

-- and the reading came so far
came_to : (names : Names) (s : ShelfEdge) (first more contents : List (List ℕ)) (last : Option (List ℕ)) → names contents ≡ first ++ more → AreRead s.told first contents → Got s first contents (reads_of last)
    → IfSome last (λ name. next_name names contents ≡ Some name) → CameTo names s last
came_to names s first more contents last are read got next = record {
  contents = contents;
  read = first_read names s.told first more contents are read;
  is_next = next;
  got = subst (λ (ns : List (List ℕ)). Got s ns contents (reads_of last)) (sym (so_far names s.told first more contents are read)) got;
}

-- between two reads, or behind the last, the work stops for want of memory alone
pub stopped_by_want : {U : Type 0} (names : Names) (s : ShelfEdge) (first more contents : List (List ℕ)) (r : Result U Stop) → names contents ≡ first ++ more → AreRead s.told first contents → Got s first contents 0
    → s.after.faults ≡ s.before.faults → IsErrAnd r (λ why. why ≡ stop.OutOfMemory) → IfErr r (Stopped names s)
stopped_by_want names s first more contents r are read got calm gave =
    stops names s stop.OutOfMemory r (record { last = None; came = came_to names s first more contents None are read got tt; no_fault = calm }) gave

-- Files of these names were read, one after another, and these are their contents. A shelf that is sure to refuse its next
-- read is as it was.
pub record Reached {S : Type 0} (of : OfShelf S) (before now : S) (names contents : List (List ℕ)) : Type 0 where
  pub read : AreRead (of.told before) names contents
  pub got : Got (shelf_edge of before now) names contents 0
  pub short : AllByRecursion IsShort contents
  pub told : of.told now ≡ of.told before
  pub faults : (of.readings now).faults ≡ (of.readings before).faults
  pub serves : (n : List ℕ) → of.Serves before n → of.Serves now n
  pub refused : of.Refuses before → (contents ≡ []) × (now ≡ before)

module _ {S : Type 0} (of : OfShelf S) (before : S) where
  module _ (between after : S) (names contents : List (List ℕ)) (r : Reached of before between names contents) (name : List ℕ) where
    -- and then one more
    pub reached_next : (gained : Gains (of.told between) name (of.readings between) (of.readings after)) → of.told after ≡ of.told between → ((n : List ℕ) → of.Serves between n → of.Serves after n) → ¬ of.Refuses between
        → Reached of before after (names ++ name ∷ []) (contents ++ gained.bytes ∷ [])
    reached_next gained same on unrefused =
        let bytes = gained.bytes in
        let tells : Tells (of.told before) name bytes = subst (λ (t : Option (List ℕ → Option (List ℕ))). Tells t name bytes) r.told gained.is_told in
        let count : suc (length contents + 0) ≡ length (contents ++ bytes ∷ []) + 0 = omega (arith, length-append contents (bytes ∷ [])) in
        record {
          read = read_next (of.told before) names contents name bytes r.read tells;
          got = record {
            names_read = rw (gained.kept, r.got.names_read) (append_assoc _ names (name ∷ []));
            contents_read = rw (gained.kept, r.got.contents_read) (append_assoc _ contents (bytes ∷ []));
            calls = rw (gained.kept, r.got.calls) (ap (raised (of.readings before).calls) count);
          };
          short = short_next contents bytes r.short (omega (arith, gained.within_limit));
          told = same ∙ r.told;
          faults = rw gained.kept r.faults;
          serves = λ n served. on n (r.serves n served);
          refused = λ refuses. absurd (unrefused (subst of.Refuses (sym (r.refused refuses).1) refuses));
        }

    -- and then a read failed, of the next name of the command
    module _ (c : CommandValue) (more : List (List ℕ)) (are : names_of c contents ≡ names ++ name ∷ more) where
      next : next_name (names_of c) contents ≡ Some name
      next = rw (are, read_length _ names contents r.read) (get_seam names more name)

      came : (of.readings after).names ≡ (of.readings between).names → (of.readings after).contents ≡ (of.readings between).contents → (of.readings after).calls ≡ one_more (of.readings between).calls
          → CameTo (names_of c) (shelf_edge of before after) (Some name)
      came named kept called =
          let count : suc (length contents + 0) ≡ length contents + 1 = omega arith in
          came_to (names_of c) (shelf_edge of before after) names (name ∷ more) contents (Some name) are r.read
          (record { names_read = named ∙ r.got.names_read; contents_read = kept ∙ r.got.contents_read; calls = rw (called, r.got.calls) (ap (raised (of.readings before).calls) count) }) next

      stopped : (e : ReadFail) → AddsRead {T = Unit {0}} (of.told between) name (of.readings between) (of.readings after) (Err e) → Stopped (names_of c) (shelf_edge of before after) (stop_of e)
      stopped Failed added = record { name = name; came = came (rw added) (rw added) (rw added); failed = rw added; last = rw added; fault = rw (added, r.faults) }
      stopped OutOfMemory added = record { last = Some name; came = came (rw added) (rw added) (rw added); no_fault = rw added r.faults }

      pub read_stops : {U : Type 0} (e : ReadFail) (result : Result U Stop) → AddsRead {T = Unit {0}} (of.told between) name (of.readings between) (of.readings after) (Err e) → IsErrAnd result (λ why. why ≡ stop_of e)
          → IfErr result (Stopped (names_of c) (shelf_edge of before after))
      read_stops e result added gave = stops (names_of c) (shelf_edge of before after) (stop_of e) result (stopped e added) gave

      -- where the shelf serves the names, memory was wanting
      pub read_wants : {U : Type 0} (e : ReadFail) (result : Result U Stop) → OnFailed {T = Unit {0}} (Err e) (¬ of.Serves between name) → IsErrAnd result (λ why. why ≡ stop_of e)
          → IsServed (names_of c) (shelf_edge of before after) → StopsByWantAlone result
      read_wants e (Ok v) unserved gave served = tt
      read_wants Failed (Err why) unserved gave served =
          let serves : of.Serves before name = subst (λ (o : Option (List ℕ)). IfSome o (of.Serves before)) next (served contents (first_read (names_of c) (of.told before) names (name ∷ more) contents are r.read)) in
          absurd (unserved (r.serves name serves))
      read_wants OutOfMemory (Err why) unserved gave served = gave

  module _ (after : S) (names contents : List (List ℕ)) (r : Reached of before after names contents) where
    -- what is lent from where the call began is what was read
    pub reached_got : got_contents (shelf_edge of before after) ≡ contents
    reached_got = rw r.got.contents_read (drop-append_seam (of.readings before).contents contents)

    -- where the names are all of the command, its files were read
    pub reached_all : (c : CommandValue) → names_of c contents ≡ names → WereRead (names_of c) (shelf_edge of before after) (got_contents (shelf_edge of before after))
    reached_all c are =
        let s : ShelfEdge = shelf_edge of before after in
        subst (WereRead (names_of c) s) (sym reached_got) (record {
          read = subst (λ (ns : List (List ℕ)). AreRead (of.told before) ns contents) (sym are) r.read;
          got = subst (λ (ns : List (List ℕ)). Got s ns contents 0) (sym are) r.got;
          no_fault = r.faults;
        })

-- the answer to all files is what is due for them
pub performed : (c : CommandValue) (s : ShelfEdge) (contents : List (List ℕ)) (answer : Answer) → WereRead (names_of c) s contents → IsSettled (c.due contents) answer → Performed c s answer
performed c s contents answer read settled = by_due (c.due contents) refl settled
  where
    by_due : (due : Option Due) → c.due contents ≡ due → IsSettled due answer → Performed c s answer
    by_due None is none = absurd none
    by_due (Some due) is one = (record { contents = contents; read = read; due = due; is_due = is }, one)
