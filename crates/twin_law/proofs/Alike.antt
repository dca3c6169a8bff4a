-- Items are alike just where what is shown of them is the same.
use Rattle.std.proofs.Common.{◌≡◌, ◌∙◌, ℕ, List, Bool, true, Option, Some, None, ap, refl, sym}
use Rattle.std.specs.Prelude.{bytes_eq, codes, if◌then◌else◌, ◌==◌, ◌&&◌}
use Rattle.std.proofs.lemmas.Bool.{and_parts}
use Rattle.std.proofs.lemmas.Bool.Decides.{Decides-eqb}
use Rattle.std.proofs.lemmas.Slice.Eq.{bytes_eq-Decides}
use Rattle.feed_log.specs.declared.view.ItemKind.{ItemKind}
use Rattle.feed_log.specs.declared.view.ItemKind.TheVariants as kind
use Rattle.feed_log.specs.Views.{ItemSeen, view_of}
use Rattle.twin_run.specs.ItemText.{is_alike, kind_name}

-- the kind that has a name
kind_named : List ℕ → Option ItemKind
kind_named name =
    if bytes_eq name (codes "boot") then Some kind.Boot else
    if bytes_eq name (codes "step") then Some kind.Step else
    if bytes_eq name (codes "start") then Some kind.Start else
    if bytes_eq name (codes "end") then Some kind.End else
    if bytes_eq name (codes "transfer") then Some kind.Transfer else
    if bytes_eq name (codes "killed") then Some kind.Killed else
    if bytes_eq name (codes "answer") then Some kind.Answer else
    if bytes_eq name (codes "gained") then Some kind.Gained else
    if bytes_eq name (codes "lost") then Some kind.Lost else
    if bytes_eq name (codes "left") then Some kind.Left else
    if bytes_eq name (codes "packet") then Some kind.Packet else
    if bytes_eq name (codes "line") then Some kind.Line else
    if bytes_eq name (codes "asked") then Some kind.Asked else
    if bytes_eq name (codes "taken") then Some kind.Taken else None

named : (k : ItemKind) → kind_named (kind_name k) ≡ Some k
unfolding kind_named
named kind.Boot = refl
named kind.Step = refl
named kind.Start = refl
named kind.End = refl
named kind.Transfer = refl
named kind.Killed = refl
named kind.Answer = refl
named kind.Gained = refl
named kind.Lost = refl
named kind.Left = refl
named kind.Packet = refl
named kind.Line = refl
named kind.Asked = refl
named kind.Taken = refl

kinds_same : (k l : ItemKind) → kind_name k ≡ kind_name l → k ≡ l
kinds_same k l is = let both : Some k ≡ Some l = sym (named k) ∙ ap kind_named is ∙ named l in cc

parts : (p q r s : Bool) → p && q && r && s ≡ true → (p ≡ true) × (q ≡ true) × (r ≡ true) × (s ≡ true)
parts p q r s all =
    let three = and_parts (p && q && r) s all in
    let two = and_parts (p && q) r three.0 in
    let one = and_parts p q two.0 in
    (one.0, one.1, two.1, three.1)

all_four : (p q r s : Bool) → p ≡ true → q ≡ true → r ≡ true → s ≡ true → p && q && r && s ≡ true
all_four p q r s a b c d = rw (a, b, c, d) refl

seen_same : (k l : ItemKind) (a b c d : ℕ) (xs ys : List ℕ) → k ≡ l → a ≡ c → b ≡ d → xs ≡ ys → view_of k a b xs ≡ view_of l c d ys
seen_same k l a b c d xs ys kinds firsts seconds texts = cc

pub alike_same : (x y : ItemSeen) → is_alike x y ≡ true → x ≡ y
alike_same x y alike =
    let four = parts (bytes_eq (kind_name x.kind) (kind_name y.kind)) (x.a == y.a) (x.b == y.b) (bytes_eq x.bytes y.bytes) alike in
    seen_same x.kind y.kind x.a x.b y.a y.b x.bytes y.bytes
    (kinds_same x.kind y.kind ((bytes_eq-Decides (kind_name x.kind) (kind_name y.kind)).0 four.0))
    ((Decides-eqb x.a y.a).0 four.1) ((Decides-eqb x.b y.b).0 four.2) ((bytes_eq-Decides x.bytes y.bytes).0 four.3)

pub alike_self : (x : ItemSeen) → is_alike x x ≡ true
alike_self x =
    all_four (bytes_eq (kind_name x.kind) (kind_name x.kind)) (x.a == x.a) (x.b == x.b) (bytes_eq x.bytes x.bytes)
    ((bytes_eq-Decides (kind_name x.kind) (kind_name x.kind)).1 refl) ((Decides-eqb x.a x.a).1 refl) ((Decides-eqb x.b x.b).1 refl) ((bytes_eq-Decides x.bytes x.bytes).1 refl)
