-- `table::reading::Table::leader` finds the lowest process in state 6. Assumes nothing.
use Rattle.std.proofs.Common.{rules, ◌≡◌, true, false}
use Rattle.std.proofs.lemmas.Iterator.{first_from_Range}
use borrow.Author.Tests.{tests}
use Rattle.gateway.specs.declared.State.TheVariants.{Leads}
use Rattle.ring.specs.Gateways.{is_in, leader_of}
use Rattle.words.specs.Table.{ring_of}
use Rattle.shape.proofs.Ranges.{search_found}
use Rattle.table.proofs.reading.Table.leader.Goals as goal

pub returns-clause-found : goal.returns-clause-found
unfolding leader_of
returns-clause-found c =
    let s = c.args.self.now in
    let p = is_in Leads (ring_of s.words.now) in
    search_found s.shape.processes p c.find.result
    (first_from_Range _ _ _ c.find.result (λ i. p i ≡ true) (λ i. p i ≡ false) c.find.ensures.ran
    (λ x q k. search (rules, tests))
    (λ x q k. search (rules, tests)))
