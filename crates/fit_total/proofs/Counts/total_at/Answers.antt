-- What is left to answer of `fit_total::Counts::total_at`: the own part has its pairs.
use Rattle.fit_total.proofs.Counts.total_at.Goals as goal

pub returns : goal.returns
returns c = c.total_at.ensures c.args.self.now.own
