-- What stands between `&` and `;` is read by its first two bytes.
use Rattle.std.proofs.Common.{◌≡◌, ◌≤◌, ◌-◌, length, take, drop, get_or, arith, List, ℕ}
use Rattle.room.proofs.Parts.{part_is}
use Rattle.markup.proofs.Numerals.{refers_hex, refers_dec, refers_named}
use Rattle.markup.proofs.values.refers.Goals as goal

pub returns-in-35 : goal.returns-in-35
returns-in-35 c =
    let s : List ℕ = take (c.args.to - c.args.from) (drop c.args.from c.args.page.now) in
    let l : 2 ≤ length s = omega arith in
    let a : get_or s 0 0 ≡ 35 = omega arith in
    let b : get_or s 1 0 ≡ 120 = omega arith in
    rw (c.mark.ensures, c.unwrap_or.ensures, c.numeral.ensures, ← part_is c.args.page.now c.args.from c.args.to) (refers_hex s l a b)

pub returns-in-35-2 : goal.returns-in-35-2
returns-in-35-2 c =
    let s : List ℕ = take (c.args.to - c.args.from) (drop c.args.from c.args.page.now) in
    let l : 1 ≤ length s = grind arith in
    let a : get_or s 0 0 ≡ 35 = grind arith in
    rw (c.mark-in-35-2.ensures, c.unwrap_or-in-35-2.ensures, c.numeral-in-35-2.ensures, ← part_is c.args.page.now c.args.from c.args.to) (refers_dec s l a (λ k b. grind arith))

pub returns-in_default : goal.returns-in_default
returns-in_default c =
    let s : List ℕ = take (c.args.to - c.args.from) (drop c.args.from c.args.page.now) in
    rw (c.named.ensures, ← part_is c.args.page.now c.args.from c.args.to) (refers_named s (λ l a. grind arith))
