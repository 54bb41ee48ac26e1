use Rattle.cm_dump.specs.declared.versions.Version.TheVariants as version
use Rattle.cm_dump.proofs.SpellingLemmas.{same_from_dump, spelling_of-dump_by, spelling_of-dump_of, version_of-dump_by}
use Rattle.cm_dump.proofs.ReadBackLemmas.{dump_by-spelled, has_dump_1}
use Rattle.cm_dump.proofs.laws.dumps_spell.Goals as goal

pub returns-clause-spelling : goal.returns-clause-spelling
returns-clause-spelling c = λ f is. spelling_of-dump_of f is

pub returns-clause-spelling_1 : goal.returns-clause-spelling_1
returns-clause-spelling_1 c = λ f is within. spelling_of-dump_by version.One f is within

pub returns-clause-same : goal.returns-clause-same
returns-clause-same c = λ f g is other same. same_from_dump f g is other same

pub returns-clause-version : goal.returns-clause-version
returns-clause-version c = λ w f. version_of-dump_by w f

pub returns-clause-dump : goal.returns-clause-dump
returns-clause-dump c = λ bytes f below is. dump_by-spelled bytes f below is

pub returns-clause-dump_1 : goal.returns-clause-dump_1
returns-clause-dump_1 c = λ bytes f below is one. has_dump_1 bytes f below is one
