mod StepLemmas
mod WindowLemmas
mod PictureLemmas
