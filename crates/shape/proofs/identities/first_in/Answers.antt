-- `shape::identities::first_in` finds the first identity that repeats. Assumes nothing.
use Rattle.std.proofs.Common.{rules, ◌≡◌, sym, not, ap, ◌∙◌, ℕ, true, false}
use Rattle.std.proofs.lemmas.Iterator.{first_from_Range}
use mathlib.Core.Path.{fun_ext}
use borrow.Author.Tests.{tests}
use Rattle.ring.specs.Scan.{first_below}
use Rattle.ring.specs.Identities.{is_fresh}
use Rattle.shape.specs.Found.{found, repeated_in}
use Rattle.shape.specs.Chains.{stands_alone}
use Rattle.shape.proofs.Ranges.{fresh_is, search_found}
use Rattle.shape.proofs.identities.first_in.Goals as goal

pub returns : goal.returns
returns g c =
    let n = c.count.result in
    let ident = g.I.Identities.given c.args.identities.now in
    let p = λ (i : ℕ). not (stands_alone ident i) in
    let same : (λ i. not (is_fresh ident i)) ≡ p = fun_ext (λ i. ap not (fresh_is ident i)) in
    search_found n p c.find.result
    (first_from_Range _ _ _ c.find.result (λ i. p i ≡ true) (λ i. p i ≡ false) c.find.ensures.ran
    (λ x q k. search (rules, tests))
    (λ x q k. search (rules, tests)))
    ∙ ap (λ (p : _). found n (first_below n p)) (sym same)
    ∙ ap (λ (m : ℕ). repeated_in m ident) c.count.ensures
