-- `checker::agree` meets its contract: the closure answers the test of one process.
use Rattle.std.proofs.Common.{ℕ, Bool, true, ◌≡◌, refl, ap, ◌∙◌, bit_and, rules}
use Rattle.std.specs.Prelude.{cond, eqb}
use Rattle.sets.specs.Members.{has}
use Rattle.sets.proofs.Bits.{has_and}
use Rattle.formats.specs.Views.{seen_by, value_by}
use Rattle.findings.specs.Findings.{view_in, same_at, agree}
use Rattle.checker.proofs.Chains.{half_open, checks}
use Rattle.checker.proofs.agree.Goals as goal

pub returns : goal.returns
unfolding agree
returns c =
    let v = c.args.v.now in
    let i = c.args.i in
    let j = c.args.j in
    let both : bit_and c.seen.result c.seen-2.result ≡ bit_and (seen_by v i) (seen_by v j) = rw (c.seen.ensures, c.seen-2.ensures) in
    checks 1 32 (half_open 1 32) refl (same_at (view_in v i) (view_in v j))
    (λ x q f k. search rules)
    (λ x q k.
    let e : q ≡ cond (has (bit_and c.seen.result c.seen-2.result) x) (eqb (value_by v i x) (value_by v j x)) true = search rules in
    e ∙ ap (λ (s : ℕ). cond (has s x) (eqb (value_by v i x) (value_by v j x)) true) both
    ∙ ap (λ (b : Bool). cond b (eqb (value_by v i x) (value_by v j x)) true) (has_and (seen_by v i) (seen_by v j) x))
    c.all.result c.all.ensures.runs
