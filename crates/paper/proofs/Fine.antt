-- Pieces of a page: in the grammar, without faults, and saying what they should.
use mathlib.Core.Path.{◌≡◌, ap, ◌∙◌}
use mathlib.Core.Bool.{Bool, true, false, ◌||◌}
use mathlib.Core.List.{List, [], ◌∷◌, ◌++◌}
use Prim.Native.Nat.{ℕ, ◌-◌}
use lib.ListN.{length}
use Rattle.paper.specs.Lists.{if, every}
use Rattle.paper.specs.Bytes.{is_allowed}
use Rattle.paper.proofs.Small.{every_append}
use Rattle.paper.specs.Grammar.{Attr, Tag, start, end, Name, Rest, bare, full, close, placed}
use Rattle.paper.specs.Fields.{Kind, unknown, M, is, fields_of, tag_name}
use Rattle.paper.specs.Plan.{Slots}
use Rattle.paper.specs.Judging.{slots_of, own, fault, Frame, frame, Stack, kind_in, misplaced, enter, note, next, here, faults, Item, item, early, says, items, lacks}
use Rattle.paper.specs.Writing.{good_element, attrs_of, spelled, opening, closing}
use Rattle.paper.specs.Writing as Wr
use Rattle.paper.proofs.Element.{MpFine, own_none, slots_of_lem, attrs_in, allowed_spelled, allowed_tag}

-- the rest of a page: it is w, the stack is st, and it says xs
pub record Fine (L : ℕ) (st : Stack) (ns : List (List ℕ)) (w : List ℕ) (xs : List Item) : Type 0 where
  pub tags : List Tag
  pub taken : Rest ns w tags
  pub clean : faults st (placed L tags) ≡ []
  pub told : items st (placed L tags) ≡ xs
  pub allowed : every is_allowed w ≡ true

-- an element that may stand here
pub record Elem (st : Stack) (k : Kind) (vs : Slots) : Type 0 where
  pub named : kind_in st (tag_name k) ≡ k
  pub right : (is k unknown || misplaced st k) ≡ false
  pub good : good_element k vs ≡ true
  pub mp : MpFine k vs

abbrev pub start_items : Kind → Slots → List Item
start_items k vs = if (early k) (item k vs [] ∷ []) []

abbrev pub end_items : Kind → Slots → List Slots → List Item
end_items k vs ws = if (is k M) (item M vs ws ∷ []) []

abbrev attrs : Kind → Slots → List Attr
attrs k vs = attrs_of (fields_of k) vs

here_start : (st : Stack) (k : Kind) (vs : Slots) (i : ℕ) → Elem st k vs → here st (start i (tag_name k) (attrs k vs)) ≡ []
here_start st k vs i E =
    ap (λ (j : Kind). fault (is j unknown || misplaced st j) 5 i ++ own j i (attrs k vs)) E.named
    ∙ ap (λ (b : Bool). fault b 5 i ++ own k i (attrs k vs)) E.right ∙ own_none k vs i E.good E.mp

next_start : (st : Stack) (k : Kind) (vs : Slots) (i : ℕ) → Elem st k vs → next st (start i (tag_name k) (attrs k vs)) ≡ enter st k i vs
next_start st k vs i E = ap (λ (j : Kind). enter st j i (slots_of (fields_of j) (attrs k vs))) E.named ∙ ap (enter st k i) (slots_of_lem k vs E.good)

says_start : (st : Stack) (k : Kind) (vs : Slots) (i : ℕ) → Elem st k vs → says st (start i (tag_name k) (attrs k vs)) ≡ start_items k vs
says_start st k vs i E = ap (λ (j : Kind). start_items j (slots_of (fields_of j) (attrs k vs))) E.named ∙ ap (start_items k) (slots_of_lem k vs E.good)

pub faults_start : (st : Stack) (k : Kind) (vs : Slots) (i : ℕ) (t : List Tag) → Elem st k vs → faults st (start i (tag_name k) (attrs k vs) ∷ t) ≡ faults (enter st k i vs) t
faults_start st k vs i t E = rw (here_start st k vs i E, next_start st k vs i E)

pub items_start : (st : Stack) (k : Kind) (vs : Slots) (i : ℕ) (t : List Tag) → Elem st k vs → items st (start i (tag_name k) (attrs k vs) ∷ t) ≡ start_items k vs ++ items (enter st k i vs) t
items_start st k vs i t E = rw (says_start st k vs i E, next_start st k vs i E)

fine_text : (k : Kind) (vs : Slots) (x : List ℕ) → good_element k vs ≡ true → every is_allowed x ≡ true → every is_allowed (60 ∷ (tag_name k ++ (spelled k vs ++ x))) ≡ true
fine_text k vs x g a = every_append is_allowed (tag_name k) (spelled k vs ++ x) (allowed_tag k) (every_append is_allowed (spelled k vs) x (allowed_spelled k vs g) a)

pub fine_bare : (L : ℕ) (F : Frame) (st : Stack) (m : List ℕ) (ns : List (List ℕ)) (k : Kind) (vs : Slots) (x : List ℕ) (xs : List Item)
    → Name (tag_name k) → Elem (F ∷ st) k vs → lacks k [] vs ≡ false → Fine L (note F k vs ∷ st) (m ∷ ns) x xs
    → Fine L (F ∷ st) (m ∷ ns) (Wr.bare k vs x) (start_items k vs ++ (end_items k vs [] ++ xs))
fine_bare L F st m ns k vs x xs N E l G =
    let i : ℕ = L - length (Wr.bare k vs x) in
    let t : List Tag = placed L G.tags in
    record {
      tags = start (length (Wr.bare k vs x)) (tag_name k) (attrs k vs) ∷ end ∷ G.tags;
      taken = bare (tag_name k) (spelled k vs) N (attrs_in k vs E.good) G.taken;
      clean = faults_start (F ∷ st) k vs i (end ∷ t) E ∙ ap (λ (b : Bool). fault b 8 i ++ faults (note F k vs ∷ st) t) l ∙ G.clean;
      told = items_start (F ∷ st) k vs i (end ∷ t) E ∙ ap (λ (ys : List Item). start_items k vs ++ (end_items k vs [] ++ ys)) G.told;
      allowed = fine_text k vs (47 ∷ 62 ∷ x) E.good G.allowed;
    }

pub fine_open : (L : ℕ) (F : Frame) (st : Stack) (m : List ℕ) (ns : List (List ℕ)) (k : Kind) (vs : Slots) (x : List ℕ) (xs : List Item)
    → Name (tag_name k) → Elem (F ∷ st) k vs → ((i : ℕ) → Fine L (frame k i vs ∷ note F k vs ∷ st) (tag_name k ∷ m ∷ ns) x xs)
    → Fine L (F ∷ st) (m ∷ ns) (opening k vs x) (start_items k vs ++ xs)
fine_open L F st m ns k vs x xs N E Gs =
    let i : ℕ = L - length (opening k vs x) in
    let G = Gs i in
    record {
      tags = start (length (opening k vs x)) (tag_name k) (attrs k vs) ∷ G.tags;
      taken = full (tag_name k) (spelled k vs) N (attrs_in k vs E.good) G.taken;
      clean = faults_start (F ∷ st) k vs i (placed L G.tags) E ∙ G.clean;
      told = items_start (F ∷ st) k vs i (placed L G.tags) E ∙ ap (λ (ys : List Item). start_items k vs ++ ys) G.told;
      allowed = fine_text k vs (62 ∷ x) E.good G.allowed;
    }

pub fine_close : (L : ℕ) (F : Frame) (st : Stack) (ns : List (List ℕ)) (k : Kind) (x : List ℕ) (xs : List Item)
    → lacks F.kind F.seen F.slots ≡ false → Fine L st ns x xs
    → Fine L (F ∷ st) (tag_name k ∷ ns) (closing k x) (end_items F.kind F.slots F.ws ++ xs)
fine_close L F st ns k x xs l G = record {
  tags = end ∷ G.tags;
  taken = close (tag_name k) [] tt G.taken;
  clean = ap (λ (b : Bool). fault b 8 F.at ++ faults st (placed L G.tags)) l ∙ G.clean;
  told = ap (λ (ys : List Item). end_items F.kind F.slots F.ws ++ ys) G.told;
  allowed = every_append is_allowed (tag_name k) (62 ∷ x) (allowed_tag k) G.allowed;
}
