mod BytesLemmas
mod Equal
mod GivenLemmas
mod PassLemmas
mod PutLemmas
mod Rising
mod WordsLemmas
