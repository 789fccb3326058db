use Rattle.std.proofs.Common.{◌≡◌, ◌+◌, ◌-◌, drop, get_or, subst, arith}
use Rattle.std.specs.Ordering.{nat_cmp}
use Rattle.mixed_radix.proofs.DigitLemmas.{nat_cmp-digits_value}
use Rattle.mixed_radix.proofs.order.compare.Goals as goal

pub returns-in_default : goal.returns-in_default
returns-in_default c = λ ms h i.
    let xs = c.args.a.now in
    let ys = c.args.b.now in
    let k = c.loop-n.n - 1 in
    let turn : c.loop-n.n ≡ k + 1 = omega arith in
    let after = subst (λ n. drop n xs ≡ drop n ys) turn c.loop-n.invariant in
    let by_digit : c.cmp.result ≡ nat_cmp (get_or xs k 0) (get_or ys k 0) = cc in
    nat_cmp-digits_value ms xs ys k c.cmp.result h i (omega arith) after c.in_default.not-Equal by_digit
