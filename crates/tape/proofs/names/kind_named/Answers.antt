-- MP is the only name of more than one letter.
use Rattle.std.proofs.Common.{◌≡◌, ℕ, Bool, true, false, List, [], ◌∷◌, length, drop, refl, sym, ap, ◌∙◌, arith}
use lib.Dec.{eqb}
use lib.Seq.{slice, length-slice}
use borrow.Author.Tests.{eqb-true}
use Rattle.paper.specs.Lists.{if, same, every}
use Rattle.paper.specs.Fields.{Kind, unknown, code, tag_name, named, kinds}
use Rattle.paper.proofs.Small.{both, same_eq}
use Rattle.sheet.specs.Content.{kind_named}
use Rattle.tape.proofs.names.kind_named.Goals as goal

abbrev lettered : Kind → Bool
lettered k = eqb (length (tag_name k)) 1

-- a name of another length is none of those of one letter
unlettered : (n : List ℕ) → (length n ≡ 1 → ⊥) → (ks : List Kind) → every lettered ks ≡ true → named n ks ≡ unknown
unlettered n h [] e = refl
unlettered n h (k ∷ ks) e = let (a, b) = both (lettered k) (every lettered ks) e in go (same n (tag_name k)) refl a (unlettered n h ks b)
  where
    go : (q : Bool) → same n (tag_name k) ≡ q → lettered k ≡ true → named n ks ≡ unknown → if q k (named n ks) ≡ unknown
    go true s a ih = absurd (h (ap length (same_eq n (tag_name k) s) ∙ eqb-true (length (tag_name k)) 1 a))
    go false s a ih = ih

pub returns-then-spells : goal.returns-then-spells
unfolding kind_named
returns-then-spells c = (rw (sym c.spells.ensures ∙ c.if-spells.true), omega arith)

pub returns-else-spells : goal.returns-else-spells
unfolding kind_named
returns-else-spells c =
    let a = c.args in
    let l = length-slice a.from a.to a.page.now c.requires.1 in
    (rw (sym c.spells.ensures ∙ c.if-spells.false) (sym (ap code (unlettered (slice a.from a.to a.page.now) (λ e. c.if-to-from-eq1.false (sym l ∙ e)) (drop 2 kinds) refl))), omega arith)
