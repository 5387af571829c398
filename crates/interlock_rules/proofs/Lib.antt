mod MayBe
mod Moments
mod Watching
