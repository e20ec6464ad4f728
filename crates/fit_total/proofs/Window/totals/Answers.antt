-- What is left to answer of `fit_total::Window::totals`: the own part has its pairs.
use Rattle.fit_total.proofs.Window.totals.Goals as goal

pub returns : goal.returns
returns c = c.totals.ensures c.args.self.now.counts.now.own
