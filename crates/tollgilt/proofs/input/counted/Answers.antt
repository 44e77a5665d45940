-- An input of at most 12,609 bytes counts whole.
use Rattle.std.proofs.Common.{◌≡◌, Bool, true, false, ℕ, ◌≤◌, ◌<◌, List, length, take, refl, ap, sym, ◌∙◌, rules, arith}
use lib.Dec.{leb}
use borrow.Author.Tests.{leb-true, leb-false}
use Rattle.std.proofs.Math.Seq.{take_all}
use Rattle.tollgilt.proofs.input.counted.Goals as goal

counts : (s : List ℕ) (n : ℕ) → n ≤ 12609 → (n < 12609 → length s ≤ n) → take n s ≡ take 12609 s
counts s n h g = at (leb 12609 n) refl
  where
    at : (b : Bool) → leb 12609 n ≡ b → take n s ≡ take 12609 s
    at true e = let k = leb-true 12609 n e in let q : n ≡ 12609 = omega arith in ap (λ (m : ℕ). take m s) q
    at false e = let k = leb-false 12609 n e in let l = g k in take_all n s l ∙ sym (take_all 12609 s (omega arith))

pub returns : goal.returns
returns c =
    let inside : c.min.result ≤ length c.args.input.now = search rules in
    let low : c.min.result ≤ 12609 = search rules in
    (inside, counts c.args.input.now c.min.result low (λ h. search rules))
