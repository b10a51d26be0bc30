use Rattle.station.proofs.AgreementLaws as agreement
use Rattle.station.proofs.laws.stations_agree.Goals as goal

pub returns-clause-begins : goal.returns-clause-begins
returns-clause-begins c = agreement.stations_agree

pub returns-clause-same : goal.returns-clause-same
returns-clause-same c = agreement.slots_agree
